-- Document 01, "Limits": all sequence numbers are counted modulo 256.
use Rattle.std.specs.Prelude.{ℕ, ◌+◌, ◌-◌, ◌%◌}

-- the number a counter shows that began at n and was advanced by a
abbrev pub advanced : ℕ → ℕ → ℕ
advanced n a = (n + a) % 256

-- x - y modulo 256, for x and y below 256
abbrev pub offset : ℕ → ℕ → ℕ
offset x y = (x + 256 - y) % 256
