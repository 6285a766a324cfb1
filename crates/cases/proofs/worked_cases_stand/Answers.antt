-- What is left to show of `worked_cases_stand` in src/lib.rt.
use Rattle.cases.proofs.Seal.{seal_cases}
use Rattle.cases.proofs.Layers.{layer_cases}
use Rattle.cases.proofs.Calls.{call_cases}
use Rattle.cases.proofs.worked_cases_stand.Goals as goal

pub returns : goal.returns
returns c = (c.kind_cases_stand.ensures, seal_cases, layer_cases c.kind_cases_stand.ensures, call_cases)
