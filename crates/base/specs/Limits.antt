-- Document 01, "Limits", by name, as document 02 amends them.
use Rattle.std.specs.Prelude.{ℕ}

-- "Frame 8 to 256 octets with its FECF": the smallest one, which order 7 leaves
abbrev pub smallest_frame : ℕ
smallest_frame = 8

-- and the largest one, document 02's order 7: "Frames to 1,024 octets (CLTU 1,186)"
abbrev pub largest_frame : ℕ
largest_frame = 1024

-- "Lent input to the CLTU reader: at most 4,096 octets"
abbrev pub largest_input : ℕ
largest_input = 4096

-- order 7: "so units to 1,017": the frame less header, 5 octets, and FECF, 2
abbrev pub largest_unit : ℕ
largest_unit = 1017

-- "Spacecraft 0 to 1,023"
abbrev pub largest_spacecraft : ℕ
largest_spacecraft = 1023

-- "channel 0 to 63"
abbrev pub largest_channel : ℕ
largest_channel = 63

-- order 7: "and K to 127" (FOP_Sliding_Window_Width)
abbrev pub largest_k : ℕ
largest_k = 127
