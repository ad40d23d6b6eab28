use Rattle.std.proofs.Common.{◌≡◌, ◌∙◌, sym, ap, true, false, ℕ, ◌++◌, ◌%◌, ◌<◌, List, length}
use Rattle.base.proofs.Tests.{tests}
use Rattle.channel_octets.specs.Kept.{record_octets, is_table}
use Rattle.channel_octets.proofs.Table.{whole_behind, table_next_lem, table_end}
use Rattle.channel_octets.proofs.is_table.Goals as goal

pub returns-then-table-ne0 : goal.returns-then-table-ne0
unfolding is_table
returns-then-table-ne0 c = search tests

pub loop-record-init : goal.loop-record-init
loop-record-init c =
    let chunks = c.chunks_exact-record-items.ensures in
    rw c.into_iter-record-iterator.ensures.into_iter_gives
    (chunks.size, ap (λ (l : List ℕ). length l % record_octets) chunks.rest ∙ c.if-table-ne0.false, ap is_table chunks.rest)

pub returns-then-not-is_record : goal.returns-then-not-is_record
returns-then-not-is_record c =
    let kept = c.loop-record.invariant in
    let steps = c.in-Some.ensures.steps in
    let x = c.in-Some.record.now in
    let behind = c.next.new.self.rest.now in
    let parts : c.loop-record.record-iterator.rest.now ≡ x ++ behind = steps.1.0 in
    let whole : length (x ++ behind) % record_octets ≡ 0 = ap (λ (l : List ℕ). length l % record_octets) (sym parts) ∙ kept.1 in
    table_next_lem x behind (steps.1.1 ∙ kept.0) whole false c.if-not-is_record.ensures ∙ ap is_table (sym parts) ∙ kept.2

pub loop-record-preserved : goal.loop-record-preserved
loop-record-preserved c =
    let kept = c.loop-record.invariant in
    let steps = c.in-Some.ensures.steps in
    let x = c.in-Some.record.now in
    let behind = c.next.new.self.rest.now in
    let parts : c.loop-record.record-iterator.rest.now ≡ x ++ behind = steps.1.0 in
    let nine : length x ≡ record_octets = steps.1.1 ∙ kept.0 in
    let whole : length (x ++ behind) % record_octets ≡ 0 = ap (λ (l : List ℕ). length l % record_octets) (sym parts) ∙ kept.1 in
    (steps.0 ∙ kept.0, whole_behind x behind nine whole, table_next_lem x behind nine whole true c.if-not-is_record.ensures ∙ ap is_table (sym parts) ∙ kept.2)

pub returns : goal.returns
returns c =
    let kept = c.loop-record.invariant in
    let left = c.loop-record.record-iterator.rest.now in
    let few : length left < record_octets = rw kept.0 at c.in-None.ensures.steps.1.0 in
    sym (table_end left kept.1 few) ∙ kept.2
