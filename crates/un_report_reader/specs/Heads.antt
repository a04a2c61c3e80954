-- The lines before the answer, as one part.
use Rattle.std.specs.Prelude.{ℕ, List, ◌++◌}
use Rattle.un_model.specs.declared.model.Options.{Options}
use Rattle.un_isa.specs.Versions.{IsVersion}
use Rattle.un_report_reader.specs.Limits.{limits_of}
use Rattle.un_report_reader.specs.Lines.{version_text, IsName, function_text, AreSettings, settings_text}
use Rattle.un_report_reader.specs.declared.head.Settings.{Settings}
use Rattle.un_report_reader.specs.declared.head.Head.{Head}

-- the version, the name, the options and the nodes
abbrev pub HeadValue : Type 0
HeadValue = ℕ × List ℕ × Options × ℕ

abbrev pub settings_of : Settings → Options × ℕ
settings_of s = (s.options, s.nodes)

abbrev pub head_of : Head → HeadValue
head_of h = (h.version, h.name.now, h.settings.options, h.settings.nodes)

abbrev pub IsHead : HeadValue → Type 0
IsHead h = IsVersion h.0 × IsName h.1 × AreSettings (limits_of h.0) (h.2, h.3)

abbrev pub head_text : HeadValue → List ℕ
head_text h = version_text h.0 ++ (function_text h.1 ++ settings_text (h.2, h.3))

abbrev pub three : HeadValue → ℕ
three h = 3
