-- Document 02, order 7: the store that a sender is lent.
use Rattle.std.specs.Prelude.{ℕ}
use Rattle.fop.specs.Store.{store_need}
use Rattle.sender_values.specs.declared.SenderState.{SenderState}

-- the octets of the store that a sender needs in its state
abbrev pub need_of : SenderState → ℕ
need_of s = store_need s.settings.k s.queues.sent
