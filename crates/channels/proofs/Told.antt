-- What the code puts together of an event is what the event comes to: nothing changed (`nothing_past`, `told_kept`), or one record at its place
-- (`told_set`, `told_frame`, `told_release`); the record that stands there is its channel's (`record_found`), and answers by the pool's room, where it can count one unit more (`arrived_found`).
use mathlib.Core.Path.{◌≡◌, refl, sym, ap, ◌∙◌}
use mathlib.Core.Bool.{Bool, true, false}
use mathlib.Core.List.{List, [], ◌∷◌, ◌++◌}
use Prim.Native.Nat.{ℕ, zero, suc, ◌<◌, ◌≤◌}
use native.Mathlib.Nat.{le_of_suc-le-suc, not-suc-le-zero}
use native.Mathlib.Omega.{arith}
use borrow.Author.Tests.{leb-true, ltb-true, lt-ltb}
use lib.Dec.{leb, ltb}
use lib.ListN.{length, take, drop, get_or, set, take-append-drop, length-take}
use lib.Seq.{set_out, take-set-lt, drop-set-lt, get_or-take, length-take-le}
use Rattle.base.specs.Choice.{must, both}
use Rattle.base.specs.Limits.{largest_spacecraft}
use Rattle.base.proofs.Tests.{both_left, both_right}
use Rattle.frame.specs.declared.Kind.{Kind}
use Rattle.receiver.specs.declared.Channel.{Channel}
use Rattle.receiver.specs.declared.ChannelAnswer.{ChannelAnswer}
use Rattle.receiver.specs.Channel.{arrived}
use Rattle.receiver.specs.Shared.{largest_held}
use Rattle.channels.specs.declared.Channels.{Channels}
use Rattle.channels.specs.Table.{Turn, place_of, held_in, table_holds, has_room, no_record, record_of, nothing_of, nothing}
use Rattle.channels.specs.Limits.{largest_channels, largest_pool}
use Rattle.channels.specs.Channels.{Turned, records_in, told, refused_count, frame_turn_of, receive_of, release_turn_of, release_of as released_of}
use Rattle.channels.proofs.Found.{blank}

-- a record, by its place
abbrev at : List Channel → ℕ → Channel
at cs i = get_or cs i blank

-- the receiver with other records, the rest of the array too
abbrev with_all : List Channel → Channels → Channels
with_all cs s = record { spacecraft = s.spacecraft; pool = s.pool; count = s.count; records = cs }

-- an event that changes nothing, by the count of records
pub nothing_past : (s : Channels) (refusal event : ℕ) → s.count ≤ length s.records → nothing_of refusal event s.count ≡ nothing refusal event (records_in s)
nothing_past s refusal event h = ap (nothing_of refusal event) (sym (length-take-le s.count s.records h))

-- what is told of it
abbrev with : Turn → Channels → Turned
with t s = record { refusal = t.refusal; event = t.event; channel = t.channel; unit = t.unit; next = s }

-- its place is past the records: the receiver stays
pub told_kept : (t : Turn) (s : Channels) → length (records_in s) ≤ t.place → with t s ≡ told t s
told_kept t s h =
    ap (λ (cs : List Channel). with t (with_all cs s))
    (sym (ap (λ (cs : List Channel). cs ++ drop s.count s.records) (set_out (records_in s) t.place t.next h) ∙ take-append-drop s.count s.records))

set_front : (cs : List Channel) (n i : ℕ) (c : Channel) → i < n → set cs i c ≡ set (take n cs) i c ++ drop n cs
set_front cs n i c h =
    sym (take-append-drop n (set cs i c))
    ∙ ap (λ (xs : List Channel). xs ++ drop n (set cs i c)) (take-set-lt n cs i c h)
    ∙ ap (λ (xs : List Channel). set (take n cs) i c ++ xs) (drop-set-lt n cs i c h)

-- it is one of theirs: one record is written there
pub told_set : (t : Turn) (s : Channels) → t.place < s.count → with t (with_all (set s.records t.place t.next) s) ≡ told t s
told_set t s h = ap (λ (cs : List Channel). with t (with_all cs s)) (set_front s.records s.count t.place t.next h)

-- what stands past the end is not told at a place before it
same_at : (cs : List Channel) (i : ℕ) (d e : Channel) → i < length cs → get_or cs i d ≡ get_or cs i e
same_at [] i d e h = absurd (not-suc-le-zero h)
same_at (c ∷ cs) zero d e h = refl
same_at (c ∷ cs) (suc i) d e h = same_at cs i d e (le_of_suc-le-suc h)

pub record_found : (cs : List Channel) (n m place : ℕ) → n ≤ length cs → place < n → place ≡ place_of m (take n cs) → at cs place ≡ record_of m (take n cs)
record_found cs n m place k h e =
    same_at cs place _ no_record (omega arith)
    ∙ sym (get_or-take n cs place no_record h)
    ∙ ap (λ (i : ℕ). get_or (take n cs) i no_record) e

held_at : (cs : List Channel) (i : ℕ) (d : Channel) → i < length cs → (get_or cs i d).held ≤ held_in cs
held_at [] i d h = absurd (not-suc-le-zero h)
held_at (c ∷ cs) zero d h = omega arith
held_at (c ∷ cs) (suc i) d h = omega (arith, held_at cs i d (le_of_suc-le-suc h))

-- the pool of records that hold is within its limit
pool_fits : (spacecraft pool : ℕ) (cs : List Channel) → table_holds spacecraft pool cs ≡ true → pool ≤ largest_pool
unfolding table_holds
pool_fits spacecraft pool cs e =
    leb-true pool largest_pool
    (both_left (leb pool largest_pool) _ (both_right (leb 1 pool) _ (both_right (leb spacecraft largest_spacecraft) _ e)))

pub room_counts : (spacecraft pool : ℕ) (cs : List Channel) (i : ℕ) (d : Channel) → table_holds spacecraft pool cs ≡ true → i < length cs
    → both (has_room pool cs) (ltb (get_or cs i d).held largest_held) ≡ has_room pool cs
room_counts spacecraft pool cs i d e h = go (has_room pool cs) refl
  where
    go : (b : Bool) → has_room pool cs ≡ b → both b (ltb (get_or cs i d).held largest_held) ≡ b
    go true r = lt-ltb (get_or cs i d).held largest_held (omega (arith, ltb-true (held_in cs) pool r, held_at cs i d h, pool_fits spacecraft pool cs e))
    go false r = refl

-- so the answer of the record at its place is that of the channel's, by the pool's room
pub arrived_found : (s : Channels) (n place : ℕ) (room : Bool) (kind : Kind) (x : ChannelAnswer) → s.count ≤ length s.records
    → table_holds s.spacecraft s.pool (records_in s) ≡ true → place < s.count → place ≡ place_of n (records_in s) → room ≡ has_room s.pool (records_in s)
    → x ≡ arrived (both room (ltb (at s.records place).held largest_held)) (at s.records place) kind
    → x ≡ arrived (has_room s.pool (records_in s)) (record_of n (records_in s)) kind
arrived_found s n place room kind x k t h e r a =
    let cs = records_in s in
    let i : place_of n cs < length cs = omega (arith, length-take-le s.count s.records k) in
    a
    ∙ ap (λ (c : Channel). arrived (both room (ltb c.held largest_held)) c kind) (record_found s.records s.count n place k h e)
    ∙ ap (λ (b : Bool). arrived b (record_of n cs) kind)
    (ap (λ (b : Bool). both b (ltb (record_of n cs).held largest_held)) r ∙ room_counts s.spacecraft s.pool cs (place_of n cs) no_record t i)

-- the receiver after it
told_by_lem : (s : Channels) (a : Bool) (x : Turn) → told (must a (nothing_of 12 0 s.count) x) s ≡ must a (refused_count s) (told x s)
told_by_lem s true x = refl
told_by_lem s false x = sym (told_kept (nothing_of 12 0 s.count) s (simp length-take (omega arith)))

pub told_frame : (s : Channels) (octets : List ℕ) → told (frame_turn_of s octets) s ≡ receive_of s octets
unfolding frame_turn_of receive_of
told_frame s octets = told_by_lem s (leb s.count largest_channels) _

pub told_release : (s : Channels) (n : ℕ) → told (release_turn_of s n) s ≡ released_of s n
unfolding release_turn_of released_of
told_release s n = told_by_lem s (leb s.count largest_channels) _
