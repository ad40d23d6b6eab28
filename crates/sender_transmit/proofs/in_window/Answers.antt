-- What the callee ensures, put in, is the definition.
use Rattle.std.proofs.Common.{ℕ, ltb, ap}
use Rattle.sender_values.specs.Actions.{in_window}
use Rattle.sender_transmit.proofs.in_window.Goals as goal

pub returns : goal.returns
unfolding in_window
returns c = ap (λ (d : ℕ). ltb d c.args.work.settings.k) c.difference.ensures
