-- A receiver at its start judges the numbers narrowed as it judges the numbers given, by the laws of crate pondreszi_numbers.
use mathlib.Core.Path.{◌≡◌, refl, sym, ap, ◌∙◌}
use mathlib.Core.Bool.{Bool, true, false}
use Prim.Native.Nat.{ℕ, ◌%◌, ◌≤◌, ◌<◌}
use native.Mathlib.Omega.{arith}
use borrow.Author.Tests.{le-leb, lt-leb}
use lib.Dec.{leb, eqb}
use Rattle.base.specs.Choice.{must}
use Rattle.base.specs.Limits.{largest_spacecraft, largest_channel}
use Rattle.receiver.specs.Receiver.{largest_buffers, start_of}
use Rattle.std.specs.Prelude.{Result, Err}
use Rattle.base.specs.declared.Refusal.{Refusal}
use Rattle.base.specs.declared.Refusal.TheVariants.{Setting}
use Rattle.receiver.specs.declared.Receiver.{Receiver}
use Rattle.fop.specs.Limits.{largest_number}
use Rattle.pondreszi_numbers.specs.Numbers.{largest_octet, narrow}
use Rattle.pondreszi_numbers.proofs.Narrowed.{Alike, beyond, Spacecraft, Channel, address}
use Rattle.pondreszi_receiver.specs.Receivers.{start_given}

-- a receiver at its start
abbrev Start : Type 0
Start = Result Receiver Refusal

abbrev outside : Start
outside = Err Setting

refuses_window : (on : Start) (y : ℕ) → 254 < y → must (eqb (y % 2) 0) outside (must (leb 2 y) outside (must (leb y 254) outside on)) ≡ outside
refuses_window on y h =
    let l : 2 ≤ y = omega arith in
    rw (le-leb 2 y l, lt-leb y 254 h) (go (eqb (y % 2) 0))
  where
    go : (b : Bool) → ◌≡◌ {A = Start} (must b outside outside) outside
    go true = refl
    go false = refl

module _ (vr : ℕ) where
  spacecraft_started : (channel window buffers : ℕ) → Alike largest_spacecraft (λ s. start_of s channel window vr buffers)
  unfolding start_of
  spacecraft_started channel window buffers y z h k = rw (lt-leb y largest_spacecraft h, lt-leb z largest_spacecraft k)

  channel_started : (spacecraft window buffers : ℕ) → Alike largest_channel (λ c. start_of spacecraft c window vr buffers)
  unfolding start_of
  channel_started spacecraft window buffers y z h k = rw (lt-leb y largest_channel h, lt-leb z largest_channel k)

  window_started : (spacecraft channel buffers : ℕ) → Alike 254 (λ w. start_of spacecraft channel w vr buffers)
  unfolding start_of
  window_started spacecraft channel buffers y z h k =
      ap (λ (x : Start). must (leb spacecraft largest_spacecraft) outside (must (leb channel largest_channel) outside x))
      (refuses_window _ y h ∙ sym (refuses_window _ z k))

  buffers_started : (spacecraft channel window : ℕ) → Alike largest_buffers (start_of spacecraft channel window vr)
  unfolding start_of
  buffers_started spacecraft channel window y z h k =
      let a : 1 ≤ y = omega arith in
      let b : 1 ≤ z = omega arith in
      rw (le-leb 1 y a, lt-leb y largest_buffers h, le-leb 1 z b, lt-leb z largest_buffers k)

  pub receiver_narrowed : (spacecraft channel window buffers : ℕ) {own ours width count : ℕ} → Spacecraft own spacecraft → Channel ours channel
      → width ≡ narrow largest_octet largest_octet window → count ≡ narrow largest_octet largest_octet buffers
      → start_of own ours width vr count ≡ start_of spacecraft channel window vr buffers
  receiver_narrowed spacecraft channel window buffers {own} {ours} {width} {count} p q w b =
      address (λ s c. start_of s c width vr count) spacecraft channel (λ c. spacecraft_started c width count) (λ s. channel_started s width count) p q
      ∙ beyond (λ x. start_of spacecraft channel x vr count) 254 largest_octet largest_octet window (window_started spacecraft channel count)
      (omega arith) (omega arith) w
      ∙ beyond (start_of spacecraft channel window vr) largest_buffers largest_octet largest_octet buffers (buffers_started spacecraft channel window)
      (omega arith) (omega arith) b

-- by the numbers given
module _ (spacecraft channel window vr buffers : ℕ) where
  pub vr_beyond : largest_number < vr → outside ≡ start_given spacecraft channel window vr buffers
  unfolding start_given
  vr_beyond h = rw (lt-leb vr largest_number h)

  pub vr_within : {r : Start} → vr ≤ largest_number → r ≡ start_of spacecraft channel window vr buffers → r ≡ start_given spacecraft channel window vr buffers
  unfolding start_given
  vr_within h e = rw (le-leb vr largest_number h) e
