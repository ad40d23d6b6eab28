-- Clause 7.2.3, FARM sliding window variables, and document 01, "FARM-1": the event of a valid AD frame, by d = N(S) - V(R) modulo
-- 256. PW = NW = W / 2.
use Rattle.std.specs.Prelude.{ℕ, ◌+◌, ◌/◌, Bool, true, false, leb, ltb, eqb}
use Rattle.base.specs.Choice.{pick, both}
use Rattle.farm.specs.declared.State.{State}
use Rattle.farm.specs.declared.State.TheVariants.{Open, Wait, Lockout}
use Rattle.farm.specs.declared.Event.{Event}
use Rattle.farm.specs.declared.Event.TheVariants.{E1, E2, E3, E4, E5}

-- the state is not Wait
abbrev pub not_wait : State → Bool
not_wait Open = true
not_wait Wait = false
not_wait Lockout = true

-- d = 0 is E1 with a free buffer, E2 without; 1 to PW - 1 is E3; 256 - NW to 255 is E4; all else E5. In Wait an expected frame is E2, whether or not
-- a buffer is free (document 02, order 8: "discarded as in Wait, an expected one as E2"; with one channel "Wait with a free buffer can't arise").
unfoldable pub ad_event : ℕ → State → Bool → ℕ → Event
ad_event window state room d =
    pick (eqb d 0) (pick (both room (not_wait state)) E1 E2)
    (pick (ltb d (window / 2)) E3
    (pick (leb 256 (d + window / 2)) E4 E5))
