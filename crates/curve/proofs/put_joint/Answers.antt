-- `curve::put_joint` meets its contract.
use mathlib.Core.List.{[]}
use Rattle.curve.proofs.Joining.{begins_anew}
use Rattle.curve.proofs.put_joint.Goals as goal

pub returns : goal.returns
returns c = rw (begins_anew c.args.end c.args.start [] c.if-end-start.false) c.put_text.ensures
