-- The run of good codeblocks by any judge, one codeblock at a time as the loop takes them (`Taken`), and what is left behind them (`Left`).
use mathlib.Core.Path.{◌≡◌, refl, sym, ap, ap₂, subst, ◌∙◌}
use mathlib.Core.Bool.{Bool, true, false}
use mathlib.Core.List.{List, ◌++◌, append_assoc, append-nil}
use Prim.Native.Nat.{ℕ, zero, suc, ◌+◌, ◌-◌, ◌*◌, ◌/◌, ◌<◌, ◌≤◌}
use native.Mathlib.Nat.{not-suc-le-zero, zero-add, add-zero, add_assoc, mul-suc}
use native.Mathlib.Numerals.{add-one}
use native.Mathlib.Omega.{arith}
use borrow.Author.Tests.{le-leb, lt-leb, leb-true}
use lib.Dec.{leb}
use lib.ListN.{length, take, drop, length-append, length-drop}
use lib.Seq.{take_at, drop-drop}
use Rattle.base.specs.Choice.{pick}
use Rattle.std.specs.Prelude.{Option}
use Rattle.codeblock.specs.Codeblock.{good, is_good, information_of, corrected_of}
use Rattle.codeblock.specs.declared.Judged.{Judged}
use Rattle.memory.specs.Placed.{placed}
use Rattle.memory.proofs.Laws.{placed_behind}
use Rattle.encoded_data.specs.EncodedData.{good_run, information_in, corrected_in, whole_in}
use Rattle.encoded_data.proofs.Encoded.{cut_front, cut_back}

module _ (judge : List ℕ → Option Judged) where
  -- codeblock n
  abbrev pub block_at : List ℕ → ℕ → Option Judged
  block_at s n = judge (take 8 (drop (8 * n) s))

  -- codeblock n of all but the first
  pub block_next : (s : List ℕ) (n : ℕ) → block_at (drop 8 s) n ≡ block_at s (suc n)
  block_next s n =
      let e : 8 + 8 * n ≡ 8 * suc n = omega (arith, mul-suc 8 n) in
      ap (λ (l : List ℕ). judge (take 8 l)) (drop-drop (8 * n) 8 s ∙ ap (λ (j : ℕ). drop j s) e)

  -- the run at its first codeblock
  run_on : (m : ℕ) (s : List ℕ) → 0 < m → is_good (judge (take 8 s)) ≡ true → good_run judge m s ≡ suc (good_run judge (m - 1) (drop 8 s))
  unfolding good_run
  run_on zero s h e = absurd (not-suc-le-zero h)
  run_on (suc m) s h e =
      let p : m ≡ suc m - 1 = omega arith in
      rw e (ap (λ (k : ℕ). suc (good_run judge k (drop 8 s))) p)

  run_stop : (m : ℕ) (s : List ℕ) → is_good (judge (take 8 s)) ≡ false → good_run judge m s ≡ 0
  unfolding good_run
  run_stop zero s e = refl
  run_stop (suc m) s e = rw e

  -- and at codeblock n of s
  run_step : (s : List ℕ) (m n : ℕ) → n < m → is_good (block_at s n) ≡ true
      → good_run judge (m - n) (drop (8 * n) s) ≡ suc (good_run judge (m - (n + 1)) (drop (8 * (n + 1)) s))
  run_step s m n h e =
      let p : 0 < m - n = omega arith in
      let a : m - n - 1 ≡ m - (n + 1) = omega arith in
      let b : 8 * n + 8 ≡ 8 * (n + 1) = omega arith in
      run_on (m - n) (drop (8 * n) s) p e
      ∙ ap₂ (λ (j : ℕ) (l : List ℕ). suc (good_run judge j l)) a (drop-drop 8 (8 * n) s ∙ ap (λ (j : ℕ). drop j s) b)

  pub run_le : (m : ℕ) (s : List ℕ) → good_run judge m s ≤ m
  unfolding good_run
  run_le zero s = omega arith
  run_le (suc m) s = go (is_good (judge (take 8 s))) (good_run judge m (drop 8 s)) (run_le m (drop 8 s))
    where
      go : (b : Bool) (k : ℕ) → k ≤ m → pick b (suc k) 0 ≤ suc m
      go true k h = omega arith
      go false k h = omega arith

  -- the first of a run that is not empty is good, and the rest is a run
  pub run_first : (m n : ℕ) (s : List ℕ) → suc n ≤ good_run judge (suc m) s → (is_good (judge (take 8 s)) ≡ true) × (n ≤ good_run judge m (drop 8 s))
  unfolding good_run
  run_first m n s h = go (is_good (judge (take 8 s))) h
    where
      go : (b : Bool) → suc n ≤ pick b (suc (good_run judge m (drop 8 s))) 0 → (b ≡ true) × (n ≤ good_run judge m (drop 8 s))
      go true h = (refl, omega arith)
      go false h = absurd (omega arith)

  -- each of a run is good
  pub run_good : (m : ℕ) (s : List ℕ) (b : ℕ) → b < good_run judge m s → is_good (block_at s b) ≡ true
  run_good zero s b h = absurd (omega (arith, run_le 0 s))
  run_good (suc m) s zero h = (run_first m 0 s h).0
  run_good (suc m) s (suc b) h = ap is_good (sym (block_next s b)) ∙ run_good m (drop 8 s) b (run_first m (suc b) s h).1

  -- the codeblock behind a run that ends early is bad
  pub run_ends : (m : ℕ) (s : List ℕ) → good_run judge m s < m → is_good (block_at s (good_run judge m s)) ≡ false
  unfolding good_run
  run_ends zero s h = absurd (not-suc-le-zero h)
  run_ends (suc m) s h = go (is_good (judge (take 8 s))) refl h (run_ends m (drop 8 s))
    where
      go : (b : Bool) → is_good (judge (take 8 s)) ≡ b → pick b (suc (good_run judge m (drop 8 s))) 0 < suc m
          → (good_run judge m (drop 8 s) < m → is_good (block_at (drop 8 s) (good_run judge m (drop 8 s))) ≡ false)
          → is_good (block_at s (pick b (suc (good_run judge m (drop 8 s))) 0)) ≡ false
      go false e h ih = e
      go true e h ih = ap is_good (sym (block_next s (good_run judge m (drop 8 s)))) ∙ ih (omega arith)

  -- one codeblock more: its information behind the others', its corrections with theirs
  information_more : (n : ℕ) (s : List ℕ) → information_in judge (suc n) s ≡ information_in judge n s ++ information_of (block_at s n)
  unfolding information_in
  information_more zero s = append-nil (information_of (judge (take 8 s)))
  information_more (suc n) s =
      ap (λ (l : List ℕ). information_of (judge (take 8 s)) ++ l)
      (information_more n (drop 8 s) ∙ ap (λ (j : Option Judged). information_in judge n (drop 8 s) ++ information_of j) (block_next s n))
      ∙ sym (append_assoc (information_of (judge (take 8 s))) (information_in judge n (drop 8 s)) (information_of (block_at s (suc n))))

  corrected_more : (n : ℕ) (s : List ℕ) → corrected_in judge (suc n) s ≡ corrected_in judge n s + corrected_of (block_at s n)
  unfolding corrected_in
  corrected_more zero s = add-zero (corrected_of (judge (take 8 s))) ∙ sym (zero-add (corrected_of (judge (take 8 s))))
  corrected_more (suc n) s =
      ap (λ (k : ℕ). corrected_of (judge (take 8 s)) + k)
      (corrected_more n (drop 8 s) ∙ ap (λ (j : Option Judged). corrected_in judge n (drop 8 s) + corrected_of j) (block_next s n))
      ∙ sym (add_assoc (corrected_of (judge (take 8 s))) (corrected_in judge n (drop 8 s)) (corrected_of (block_at s (suc n))))

  -- n codeblocks of s are taken: they are good, and their information stands at the front of a memory that was `old`
  pub record Taken (whole : ℕ) (s old memory : List ℕ) (corrected n : ℕ) : Type 0 where
    pub within : n ≤ whole
    pub run : good_run judge whole s ≡ n + good_run judge (whole - n) (drop (8 * n) s)
    pub count : corrected ≡ corrected_in judge n s
    pub few : corrected ≤ n
    pub long : length (information_in judge n s) ≡ 7 * n
    pub front : memory ≡ information_in judge n s ++ drop (length (information_in judge n s)) old

  pub taken_none : (whole : ℕ) (s old : List ℕ) {n : ℕ} → n ≡ 0 → Taken whole s old old 0 n
  unfolding information_in corrected_in
  taken_none whole s old none =
      let e : whole ≡ whole - 0 = omega arith in
      subst (Taken whole s old old 0) (sym none) (record {
        within = omega arith;
        run = ap (λ (j : ℕ). good_run judge j s) e ∙ sym (zero-add (good_run judge (whole - 0) s));
        count = refl;
        few = omega arith;
        long = refl;
        front = refl;
      })

  module _ {whole : ℕ} {s old memory : List ℕ} {corrected n : ℕ} (t : Taken whole s old memory corrected n) where
    pub taken_bad : (j : Option Judged) → j ≡ block_at s n → is_good j ≡ false → good_run judge whole s ≡ n
    taken_bad j e b =
        let r = run_stop (whole - n) (drop (8 * n) s) (ap is_good (sym e) ∙ b) in
        omega (arith, t.run)

    pub taken_all : whole ≤ n → good_run judge whole s ≡ n
    unfolding good_run
    taken_all h =
        let z : whole - n ≡ 0 = omega arith in
        let r : good_run judge (whole - n) (drop (8 * n) s) ≡ 0 = ap (λ (j : ℕ). good_run judge j (drop (8 * n) s)) z in
        omega (arith, t.run)

    pub taken_more : (information : List ℕ) (one : ℕ) → good information one ≡ block_at s n → n < whole → length information ≡ 7 → one ≤ 1 → 7 * whole ≤ length old
        → {memory' : List ℕ} {n' : ℕ} → memory' ≡ placed memory (7 * n) information → n' ≡ n + 1 → Taken whole s old memory' (corrected + one) n'
    taken_more information one b h seven few room {memory'} w next = subst (Taken whole s old memory' (corrected + one)) (sym next) (record {
      within = omega arith;
      run = t.run ∙ ap (λ (j : ℕ). n + j) (run_step s whole n h (ap is_good (sym b))) ∙ (omega arith);
      count = ap₂ (λ (j : ℕ) (x : Option Judged). j + corrected_of x) t.count b ∙ sym (corrected_more n s) ∙ ap (λ (j : ℕ). corrected_in judge j s) (sym (add-one n));
      few = omega (arith, t.few);
      long = ap length (sym o) ∙ length-append (information_in judge n s) information ∙ (omega (arith, seven, t.long));
      front = w
          ∙ placed_behind old (information_in judge n s) information memory (7 * n) t.front (sym t.long) (omega arith)
          ∙ ap (λ (x : List ℕ). x ++ drop (length x) old) o;
    })
      where
        o : information_in judge n s ++ information ≡ information_in judge (n + 1) s
        o =
            ap (λ (x : Option Judged). information_in judge n s ++ information_of x) b
            ∙ sym (information_more n s)
            ∙ ap (λ (j : ℕ). information_in judge j s) (sym (add-one n))

  -- where what is good has seven octets of information, n codeblocks of a run have seven each
  module _ (seven : (block : List ℕ) → is_good (judge block) ≡ true → length (information_of (judge block)) ≡ 7) where
    pub length_information_in : (m n : ℕ) (s : List ℕ) → n ≤ good_run judge m s → length (information_in judge n s) ≡ 7 * n
    unfolding information_in
    length_information_in m zero s h = refl
    length_information_in zero (suc n) s h = absurd (omega (arith, run_le 0 s))
    length_information_in (suc m) (suc n) s h =
        let f = run_first m n s h in
        length-append (information_of (judge (take 8 s))) (information_in judge n (drop 8 s))
        ∙ ap₂ ◌+◌ (seven (take 8 s) f.0) (length_information_in m n (drop 8 s) f.1)
        ∙ (omega (arith, mul-suc 7 n))

-- behind n codeblocks the rest of s is left, to be cut by the size
pub record Left (s rest : List ℕ) (size n : ℕ) : Type 0 where
  pub eight : size ≡ 8
  pub behind : rest ≡ drop (8 * n) s

pub left_all : {s rest : List ℕ} {size n : ℕ} → rest ≡ s → size ≡ 8 → n ≡ 0 → Left s rest size n
left_all {s} {rest} {size} r z none = subst (Left s rest size) (sym none) (record { eight = z; behind = r })

module _ {s rest : List ℕ} {size n : ℕ} (l : Left s rest size n) (within : n ≤ length s / 8) where
  -- no whole codeblock
  pub left_none : length rest < size → n ≡ length s / 8
  left_none h = omega (arith, l.eight, ap length l.behind, length-drop (8 * n) s)

  -- the next codeblock, cut from the rest
  module _ (block more : List ℕ) (e : (rest ≡ block ++ more) × (length block ≡ size)) where
    pub left_next : block ≡ take 8 (drop (8 * n) s)
    left_next = cut_front rest block more 8 e.0 (e.1 ∙ l.eight) ∙ ap (take 8) l.behind

    pub left_some : n < length s / 8
    left_some = omega (arith, ap length e.0, length-append block more, e.1, l.eight, ap length l.behind, length-drop (8 * n) s)

    pub left_more : {size' n' : ℕ} → size' ≡ size → n' ≡ n + 1 → Left s more size' n'
    left_more {size'} z next =
        let next_eight : 8 * n + 8 ≡ 8 * (n + 1) = omega arith in
        subst (Left s more size') (sym next) (record {
          eight = z ∙ l.eight;
          behind = cut_back rest block more 8 e.0 (e.1 ∙ l.eight) ∙ ap (drop 8) l.behind ∙ drop-drop 8 (8 * n) s ∙ ap (λ (j : ℕ). drop j s) next_eight;
        })

-- the codeblocks looked at, by whether there is room for their information
pub whole_room : (octets room : ℕ) → 7 * (octets / 8) ≤ room → whole_in octets room ≡ octets / 8
whole_room octets room h = simp (le-leb (7 * (octets / 8)) room h)

pub whole_none : (octets room : ℕ) → room < 7 * (octets / 8) → whole_in octets room ≡ 0
whole_none octets room h = simp (lt-leb (7 * (octets / 8)) room h)

-- they are there, and there is room for them
pub whole_fits : (octets room : ℕ) → (8 * whole_in octets room ≤ octets) × (7 * whole_in octets room ≤ room)
whole_fits octets room = go (leb (7 * (octets / 8)) room) refl
  where
    go : (b : Bool) → leb (7 * (octets / 8)) room ≡ b → (8 * pick b (octets / 8) 0 ≤ octets) × (7 * pick b (octets / 8) 0 ≤ room)
    go true e = (omega arith, leb-true (7 * (octets / 8)) room e)
    go false e = (omega arith, omega arith)

-- the run of all whole codeblocks, where there is room
pub run_whole : (judge : List ℕ → Option Judged) (s : List ℕ) {n room : ℕ} → n ≡ good_run judge (whole_in (length s) room) s → 7 * (length s / 8) ≤ room
    → n ≡ good_run judge (length s / 8) s
run_whole judge s {n} {room} e h = e ∙ ap (λ (k : ℕ). good_run judge k s) (whole_room (length s) room h)

-- the octets at the front of a memory, as the part up to their count
pub part_front : (octets behind memory : List ℕ) (k : ℕ) → memory ≡ octets ++ behind → k ≡ length octets → take k memory ≡ octets
part_front octets behind memory k e l = ap (take k) e ∙ take_at octets behind k (sym l)
