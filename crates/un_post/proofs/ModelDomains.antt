-- Each domain of a model is one that a variable may have: rising values, one at least, and all below 2^32.
use Rattle.std.proofs.Common.{zero, suc, ◌<◌, ◌^◌, List, [], ◌∷◌, map, All}
use Rattle.un_isa.specs.Fit.{IsFit}
use Rattle.un_ir.specs.declared.extended.Ext.{Ext}
use Rattle.un_ir.specs.Extended.{IsExtended}
use Rattle.un_domains.specs.Domains.{IsDomain, values_of}
use Rattle.un_domains.specs.Sets.{NoneEmpty}
use Rattle.un_domains.specs.declared.domain.Domain.{Domain}
use Rattle.un_model.specs.declared.model.Model.{Model}
use Rattle.un_model.specs.declared.model.Options.{Options}
use Rattle.un_model.specs.Options.{AreOptions}
use Rattle.un_model.specs.Variables.{IsModel, own_horizon, domains_of, model_of}
use Rattle.un_lists.proofs.Lists.{Each, each_member}
use Rattle.un_prop.specs.Looks.{InWords}
use Rattle.un_root.proofs.ModelDomains.{IsWordDomain, domains_each, some_each, domains_are as are_domains}
use Rattle.un_post.proofs.Exact.{any_equal as has_member}

-- each is a domain
pub domains_are : (m : Model) → IsModel m → IsExtended m.ext → IsFit m.ext.table → AreOptions m.options → All IsDomain m.domains
domains_are m model extended fit options = are_domains m model extended fit options

in_words : (ds : List Domain) → Each IsWordDomain ds → InWords (map values_of ds)
in_words [] h v y has = absurd (cc has)
in_words (d ∷ ds) h zero y has = each_member (λ v. v < 2 ^ 32) (values_of d) y (let g = h.0 in g.words) (has_member y (values_of d) has)
in_words (d ∷ ds) h (suc v) y has = in_words ds h.1 v y has

-- all their values are below 2^32
pub domains_in_words : (e : Ext) (o : Options) → IsExtended e → IsFit e.table → AreOptions o
    → InWords (map values_of (model_of e o).domains)
domains_in_words e o extended fit options =
    in_words (domains_of own_horizon e o) (domains_each e o extended fit options)

-- and each has one
pub domains_live : (e : Ext) (o : Options) → IsExtended e → IsFit e.table → AreOptions o → NoneEmpty (map values_of (model_of e o).domains)
domains_live e o extended fit options = some_each (domains_of own_horizon e o) (domains_each e o extended fit options)
