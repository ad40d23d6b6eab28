-- Limits of order 8 and of a channel's record, by name.
use Rattle.std.specs.Prelude.{ℕ}

-- "One receiver, up to eight channels"
abbrev pub largest_channels : ℕ
largest_channels = 8

-- "a shared pool of AD buffers, 1 to 16"
abbrev pub largest_pool : ℕ
largest_pool = 16

-- document 01, "Receiver window W even, 2 to 254"
abbrev pub smallest_window : ℕ
smallest_window = 2

abbrev pub largest_window : ℕ
largest_window = 254

-- clause 6.3: the FARM-B counter has two bits
abbrev pub counter_modulus : ℕ
counter_modulus = 4
