-- Document 01, "Limits", for FOP-1, by name.
use Rattle.std.specs.Prelude.{ℕ}
pub use Rattle.base.specs.Limits.{largest_k}

-- "Transmission limit 1 to 255" (Transmission_Limit)
abbrev pub largest_transmission_limit : ℕ
largest_transmission_limit = 255

-- "Timer 1 to 65,535 ticks" (T1_Initial)
abbrev pub largest_timer : ℕ
largest_timer = 65535

-- sequence numbers: V(S), V*(S) and V*(R) are octets
abbrev pub largest_number : ℕ
largest_number = 255

-- clause 7.2.2: Suspend_State "takes one of five values, from 0 to 4"
abbrev pub largest_suspend_state : ℕ
largest_suspend_state = 4

-- Timeout_Type is 0 or 1 (clause 7.2.2). Document 01's "Timeout_Type 1 is one too for now" is amended by document 02, order 9: "Setting 1 is no
-- longer refusal 12; 2 and above still are."
abbrev pub largest_timeout_type : ℕ
largest_timeout_type = 1
