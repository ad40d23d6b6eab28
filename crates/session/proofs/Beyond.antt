-- All that holds beyond demand 3 (specs/Beyond), of all ends that do as the tables say, after every list of events over channels that repeat and
-- noise in which no lower-layer reject comes while suspended, with a recorder that keeps at most NW units: one run of Core's session (Linked), at which each part is proved in a file of its own.
use Rattle.session.specs.Ends.{Settings, Within, Ends, Tied}
use Rattle.session.specs.Beyond.{Beyond}
use Rattle.session.proofs.Linked.{from_start}
use Rattle.session.proofs.Theorem.{claims_linked}
use Rattle.session.proofs.Strong.{stronger_linked}
use Rattle.session.proofs.HandsOut.{hands_out_lem, filled_answers}
use Rattle.session.proofs.Harmless.{harmless}
use Rattle.session.proofs.Split.{split}
use Rattle.session.proofs.Pass.{passes}

pub beyond : (set : Settings) → Within set → (m : Ends) → Tied set m → Beyond set m
beyond set vw m t kept most es u =
    let k = from_start set vw m t kept most (λ κ. Unit {0}) (λ e κ a I x. tt) tt es u in
    record {
      claims = claims_linked set vw m t kept most es u;
      stronger = stronger_linked set vw m t kept most es u;
      hands_out = hands_out_lem set vw m t _ k.session k.ends k.inv;
      filled = filled_answers set vw m t _ k.session k.ends k.inv kept most;
      harmless = harmless set vw m t kept most _ _ k.session k.ends k.of_tables k.inv;
      split = split set vw m t _ _ k.session k.ends k.of_tables k.inv kept most;
      passes = passes set vw m t _ _ k.session k.ends k.of_tables k.inv;
    }
