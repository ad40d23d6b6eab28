-- The digits left, behind the value so far, give the value of all.
use Rattle.std.proofs.Common.{◌≡◌, ◌≤◌, drop}
use Rattle.text.specs.Decimal.{value_within}
use Rattle.text.proofs.value.Given as goal

abbrev pub invariant-loop-octet : goal.invariant-loop-octet
invariant-loop-octet l = (l.value ≤ l.limit) × (value_within l.limit l.value (drop l.octet-index l.text) ≡ value_within l.limit 0 l.text)
