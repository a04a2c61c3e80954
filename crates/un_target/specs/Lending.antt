-- The parts that are lent.
use Rattle.serde_json.specs.View.{items_view, members_view}
use Rattle.un_target.specs.declared.parts.Lent.{Lent}
use Rattle.un_target.specs.Parts.{Parts}

-- the parts that lent ones are
abbrev pub lent_parts : Lent → Parts
lent_parts l = record {
  latency = members_view l.latency.now.entries;
  uses = members_view l.uses.now.entries;
  saved = items_view l.saved.now.items;
  fresh = l.fresh;
}
