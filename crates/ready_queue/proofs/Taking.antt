-- What a take leaves of the ready contexts.
use Rattle.std.proofs.Common.{◌≡◌, ◌+◌, Option, Some, None, length, refl, ap, arith}
use Rattle.hart_model.specs.Context.{ContextState}
use Rattle.core_model.specs.Board.{Front, all_ready, front_of}
use Rattle.core_model.proofs.ReadyLists.{front-is}
use Rattle.ready_queue.specs.ReadyView.{ReadyView, taken_of, next_of}

-- one context fewer is ready, and the room and the bands stay
fewer_by : (r : ReadyView) (front : Option Front) → front_of r.lists.first r.lists.second ≡ front → (c : ContextState) → (taken_of r front).0 ≡ Some c
    → length (all_ready r.lists) ≡ length (all_ready (taken_of r front).1.lists) + 1
fewer_by r None e c got = absurd (cc got)
fewer_by r (Some f) e c got =
    let all = ap length (front-is r.lists.first r.lists.second f e) in
    omega (arith, all)

pub fewer : (r : ReadyView) (c : ContextState) → (next_of r).0 ≡ Some c → length (all_ready r.lists) ≡ length (all_ready (next_of r).1.lists) + 1
fewer r c got = fewer_by r (front_of r.lists.first r.lists.second) refl c got

room_by : (r : ReadyView) (front : Option Front) → (taken_of r front).1.room ≡ r.room
room_by r None = refl
room_by r (Some f) = refl

pub room-stays : (r : ReadyView) → (next_of r).1.room ≡ r.room
room-stays r = room_by r (front_of r.lists.first r.lists.second)
