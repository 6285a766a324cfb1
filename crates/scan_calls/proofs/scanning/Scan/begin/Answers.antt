use Rattle.std.proofs.Common.{rules}
use Rattle.scan_calls.proofs.Accepted.{begun_stands}
use Rattle.scan_calls.proofs.scanning.Scan.begin.Goals as goal

pub returns-clause-stands : goal.returns-clause-stands
returns-clause-stands g c = begun_stands _ _ _ (search rules)
