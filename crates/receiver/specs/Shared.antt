-- Document 02, order 8: a virtual channel of several that share a pool of AD buffers.
use Rattle.std.specs.Prelude.{ℕ}

-- the units that its record, an octet, counts; any pool of document 02 has fewer buffers
abbrev pub largest_held : ℕ
largest_held = 255
