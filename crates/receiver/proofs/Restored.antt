-- What is kept over a reset comes back: the test of a state holds of every well-formed receiver (`well_formed_lem`), and of no other (`was_well_formed`).
use mathlib.Core.Path.{◌≡◌, refl}
use mathlib.Core.Bool.{Bool, true, false, not}
use Prim.Native.Nat.{ℕ, ◌%◌, ◌<◌}
use borrow.Author.Tests.{leb-true, ltb-true, eqb-true, le-leb, lt-ltb, eq-eqb}
use lib.Dec.{leb, ltb, eqb}
use Rattle.base.specs.Choice.{pick, both}
use Rattle.base.specs.Limits.{largest_spacecraft, largest_channel}
use Rattle.base.proofs.Tests.{apart, both_left, both_right}
use Rattle.farm.specs.declared.State.{State}
use Rattle.farm.specs.declared.State.TheVariants.{Open, Wait, Lockout}
use Rattle.farm.proofs.Sound.{is_lockout, is_wait}
use Rattle.receiver.specs.declared.Receiver.{Receiver}
use Rattle.receiver.specs.Receiver.{largest_buffers}
use Rattle.receiver.specs.State.{flags_hold, well_formed}
use Rattle.receiver.proofs.Kept.{WellFormed}

-- the flags by the state, as facts and as a test
flags_hold_lem : (s : State) (l w t : Bool) → l ≡ is_lockout s → both (not (is_lockout s)) w ≡ is_wait s → (w ≡ true → t ≡ true) → flags_hold s l w t ≡ true
flags_hold_lem Open l w t a b c = rw (a, b)
flags_hold_lem Wait l w t a b c = rw (a, b, c b)
flags_hold_lem Lockout l true t a b c = rw (a, c refl)
flags_hold_lem Lockout l false t a b c = rw a

flags_held : (s : State) (l w t : Bool) → flags_hold s l w t ≡ true → (l ≡ is_lockout s) × (both (not (is_lockout s)) w ≡ is_wait s) × (w ≡ true → t ≡ true)
flags_held Open false false t e = (refl, refl, λ f. absurd (apart f))
flags_held Wait false true true e = (refl, refl, λ f. refl)
flags_held Lockout true true true e = (refl, refl, λ f. refl)
flags_held Lockout true false t e = (refl, refl, λ f. absurd (apart f))
flags_held Open false true t e = absurd (apart e)
flags_held Open true w t e = absurd (apart e)
flags_held Wait false true false e = absurd (apart e)
flags_held Wait false false t e = absurd (apart e)
flags_held Wait true w t e = absurd (apart e)
flags_held Lockout true true false e = absurd (apart e)
flags_held Lockout false w t e = absurd (apart e)

-- every buffer is taken where the wait flag is set, as a fact and as a test
all_taken : (wait : Bool) (taken buffers : ℕ) → (wait ≡ true → taken ≡ buffers) → pick wait (eqb taken buffers) true ≡ true
all_taken true taken buffers h = eq-eqb taken buffers (h refl)
all_taken false taken buffers h = refl

all_were_taken : (wait : Bool) (taken buffers : ℕ) → pick wait (eqb taken buffers) true ≡ true → wait ≡ true → taken ≡ buffers
all_were_taken true taken buffers e f = eqb-true taken buffers e
all_were_taken false taken buffers e f = absurd (apart f)

module _ (r : Receiver) where
  pub well_formed_lem : WellFormed r → well_formed r.farm ≡ true
  unfolding well_formed
  well_formed_lem h =
      let v = r.farm.channel.variables in
      let s = h.settings in
      let f = flags_hold_lem v.state v.lockout v.wait v.retransmit h.variables.lockout h.variables.wait h.variables.retransmit in
      rw (
        le-leb r.farm.spacecraft largest_spacecraft s.spacecraft_fits,
        le-leb r.farm.channel.number largest_channel s.channel_fits,
        eq-eqb (r.farm.channel.window % 2) 0 s.even,
        le-leb 2 r.farm.channel.window s.narrow,
        le-leb r.farm.channel.window 254 s.wide,
        le-leb 1 r.farm.buffers s.some,
        le-leb r.farm.buffers largest_buffers s.few,
        f,
        lt-ltb v.counter 4 h.variables.counter,
        le-leb r.farm.channel.held r.farm.buffers h.taken,
      )
      (all_taken v.wait r.farm.channel.held r.farm.buffers h.wait_full)

  pub was_well_formed : well_formed r.farm ≡ true → r.farm.channel.variables.vr < 256 → WellFormed r
  unfolding well_formed
  was_well_formed e vr =
      let v = r.farm.channel.variables in
      let e1 = both_right (leb r.farm.spacecraft largest_spacecraft) _ e in
      let e2 = both_right (leb r.farm.channel.number largest_channel) _ e1 in
      let e3 = both_right (eqb (r.farm.channel.window % 2) 0) _ e2 in
      let e4 = both_right (leb 2 r.farm.channel.window) _ e3 in
      let e5 = both_right (leb r.farm.channel.window 254) _ e4 in
      let e6 = both_right (leb 1 r.farm.buffers) _ e5 in
      let e7 = both_right (leb r.farm.buffers largest_buffers) _ e6 in
      let f = flags_held v.state v.lockout v.wait v.retransmit (both_left _ _ e7) in
      let e8 = both_right (flags_hold v.state v.lockout v.wait v.retransmit) _ e7 in
      let e9 = both_right (ltb v.counter 4) _ e8 in
      record {
        settings = record {
          spacecraft_fits = leb-true r.farm.spacecraft largest_spacecraft (both_left _ _ e);
          channel_fits = leb-true r.farm.channel.number largest_channel (both_left _ _ e1);
          even = eqb-true (r.farm.channel.window % 2) 0 (both_left _ _ e2);
          narrow = leb-true 2 r.farm.channel.window (both_left _ _ e3);
          wide = leb-true r.farm.channel.window 254 (both_left _ _ e4);
          some = leb-true 1 r.farm.buffers (both_left _ _ e5);
          few = leb-true r.farm.buffers largest_buffers (both_left _ _ e6);
        };
        variables = record { lockout = f.0; wait = f.1; retransmit = f.2; counter = ltb-true v.counter 4 (both_left _ _ e8); vr = vr };
        taken = leb-true r.farm.channel.held r.farm.buffers (both_left _ _ e9);
        wait_full = all_were_taken v.wait r.farm.channel.held r.farm.buffers (both_right (leb r.farm.channel.held r.farm.buffers) _ e9);
      }
