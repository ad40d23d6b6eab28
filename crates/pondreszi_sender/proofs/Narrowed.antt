-- A sender at its start judges the numbers narrowed as it judges the numbers given, by the laws of crate pondreszi_numbers.
use mathlib.Core.Path.{◌≡◌, ◌∙◌}
use Prim.Native.Nat.{ℕ, ◌≤◌, ◌<◌}
use native.Mathlib.Omega.{arith}
use borrow.Author.Tests.{le-leb, lt-leb}
use Rattle.base.specs.Limits.{largest_spacecraft, largest_channel}
use Rattle.base.proofs.Tests.{both_false}
use Rattle.fop.specs.Limits.{largest_number, largest_k, largest_timer, largest_transmission_limit, largest_timeout_type}
use Rattle.sender.specs.Start.{starting_of}
use Rattle.std.specs.Prelude.{Result, Err}
use Rattle.base.specs.declared.Refusal.{Refusal}
use Rattle.base.specs.declared.Refusal.TheVariants.{Setting}
use Rattle.sender.specs.declared.Sender.{Sender}
use Rattle.pondreszi_numbers.specs.Numbers.{largest_octet, narrow}
use Rattle.pondreszi_numbers.proofs.Narrowed.{Alike, beyond, Spacecraft, Channel, address}
use Rattle.pondreszi_sender.specs.Senders.{settings_of, start_given as sender_given}

-- a sender at its start
module _ (t1 limit vs nnr lent : ℕ) where
  abbrev starts : ℕ → ℕ → ℕ → ℕ → Result Sender Refusal
  starts k type spacecraft channel = starting_of (settings_of k t1 limit type spacecraft channel) vs nnr lent

  k_started : (type spacecraft channel : ℕ) → Alike largest_k (λ k. starts k type spacecraft channel)
  unfolding starting_of
  k_started type spacecraft channel y z h k = simp (lt-leb y largest_k h, lt-leb z largest_k k, both_false)

  type_started : (k spacecraft channel : ℕ) → Alike largest_timeout_type (λ t. starts k t spacecraft channel)
  unfolding starting_of
  type_started k spacecraft channel y z h l = simp (lt-leb y largest_timeout_type h, lt-leb z largest_timeout_type l, both_false)

  spacecraft_begun : (k type channel : ℕ) → Alike largest_spacecraft (λ s. starts k type s channel)
  unfolding starting_of
  spacecraft_begun k type channel y z h l = simp (lt-leb y largest_spacecraft h, lt-leb z largest_spacecraft l, both_false)

  channel_begun : (k type spacecraft : ℕ) → Alike largest_channel (starts k type spacecraft)
  unfolding starting_of
  channel_begun k type spacecraft y z h l = simp (lt-leb y largest_channel h, lt-leb z largest_channel l, both_false)

  pub sender_narrowed : (k type spacecraft channel : ℕ) {width kind own ours : ℕ} → width ≡ narrow largest_octet largest_octet k
      → kind ≡ narrow largest_octet largest_octet type → Spacecraft own spacecraft → Channel ours channel
      → starts width kind own ours ≡ starts k type spacecraft channel
  sender_narrowed k type spacecraft channel {width} {kind} {own} {ours} a b p q =
      beyond (λ x. starts x kind own ours) largest_k largest_octet largest_octet k (k_started kind own ours) (omega arith) (omega arith) a
      ∙ beyond (λ x. starts k x own ours) largest_timeout_type largest_octet largest_octet type (type_started k own ours) (omega arith) (omega arith) b
      ∙ address (starts k type) spacecraft channel (spacecraft_begun k type) (channel_begun k type) p q

-- by the numbers given
module _ (k t1 limit type spacecraft channel vs nnr lent : ℕ) where
  abbrev given : Result Sender Refusal
  given = sender_given k t1 limit type spacecraft channel vs nnr lent

  module _ {r : Result Sender Refusal} (e : r ≡ Err Setting) where
    pub timer_beyond : largest_timer < t1 → r ≡ given
    unfolding sender_given
    timer_beyond h = rw (lt-leb t1 largest_timer h) e

    pub limit_beyond : t1 ≤ largest_timer → largest_transmission_limit < limit → r ≡ given
    unfolding sender_given
    limit_beyond h l = rw (le-leb t1 largest_timer h, lt-leb limit largest_transmission_limit l) e

    pub vs_beyond : t1 ≤ largest_timer → limit ≤ largest_transmission_limit → largest_number < vs → r ≡ given
    unfolding sender_given
    vs_beyond h l m = rw (le-leb t1 largest_timer h, le-leb limit largest_transmission_limit l, lt-leb vs largest_number m) e

    pub nnr_beyond : t1 ≤ largest_timer → limit ≤ largest_transmission_limit → vs ≤ largest_number → largest_number < nnr → r ≡ given
    unfolding sender_given
    nnr_beyond h l m n =
        rw (le-leb t1 largest_timer h, le-leb limit largest_transmission_limit l, le-leb vs largest_number m, lt-leb nnr largest_number n) e

  pub all_within : {r : Result Sender Refusal} → t1 ≤ largest_timer → limit ≤ largest_transmission_limit → vs ≤ largest_number → nnr ≤ largest_number
      → r ≡ starting_of (settings_of k t1 limit type spacecraft channel) vs nnr lent → r ≡ given
  unfolding sender_given
  all_within h l m n e =
      rw (le-leb t1 largest_timer h, le-leb limit largest_transmission_limit l, le-leb vs largest_number m, le-leb nnr largest_number n) e
