-- Texts that there are: that of HEXAGON, and one of each cause, with each later cause in it too where the text has parts.
use Rattle.std.specs.Prelude.{ℕ, List, codes}
use Rattle.un_target.specs.declared.error.TableCause.{TableCause}
use Rattle.un_target.specs.declared.error.TableCause.TheVariants.{NotJson, BadShape, BadLatency, BadUse, BadSaved}

abbrev pub hexagon_text : List ℕ
hexagon_text = codes "{\"latency\":{},\"uses\":{},\"saved\":[16,17,18,19,20,21,22,23,24,25,26,27],\"fresh\":false}"

abbrev pub bad_text : TableCause → List ℕ
bad_text NotJson = codes "{"
bad_text BadShape = codes "{}"
bad_text BadLatency = codes "{\"latency\":{\"Load\":3},\"uses\":{\"Load\":[0,0,0,0]},\"saved\":[],\"fresh\":true}"
bad_text BadUse = codes "{\"latency\":{},\"uses\":{\"Load\":[0,0,0,0]},\"saved\":[],\"fresh\":true}"
bad_text BadSaved = codes "{\"latency\":{},\"uses\":{},\"saved\":[],\"fresh\":true}"
