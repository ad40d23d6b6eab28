-- What stands in a buffer.
use Rattle.std.specs.Prelude.{ℕ, ◌+◌, List, ◌++◌, leb, length, take}
use Rattle.base.specs.Choice.{pick}
use Rattle.text.specs.declared.buffer.Buffer.{Buffer}

-- its first octets; what the array holds behind them shows nowhere
abbrev pub standing : {ROOM : ℕ} → Buffer ROOM → List ℕ
standing b = take b.len b.octets

-- octets behind those that stand, where there is room for all of them; else those that stand
abbrev pub put_behind : ℕ → List ℕ → List ℕ → List ℕ
put_behind room old octets = pick (leb (length old + length octets) room) (old ++ octets) old
