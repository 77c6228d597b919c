use Rattle.std.proofs.Common.{◌≡◌, ◌+◌, ◌≤◌, take, fold, vec_len, vec_capacity}
use Rattle.al_queue.specs.Walk.{passed}
use Rattle.al_queue.proofs.walk.walk.Given as goal

abbrev pub invariant-loop-request : goal.invariant-loop-request
invariant-loop-request l = record {
  walked : fold passed (record { held = l.initial.held.items; waiting = l.initial.waiting.items; granted = l.initial.granted.items }) (take l.request-index l.requests) ≡ record { held = l.held.items; waiting = l.waiting.items; granted = l.granted.items };
  len : vec_len l.held + vec_len l.waiting ≡ vec_len l.initial.held + vec_len l.initial.waiting + l.request-index;
  granted_len : vec_len l.granted + vec_len l.waiting ≡ vec_len l.initial.granted + vec_len l.initial.waiting + l.request-index;
  held_least : vec_len l.initial.held ≤ vec_len l.held;
  waiting_least : vec_len l.initial.waiting ≤ vec_len l.waiting;
  held_capacity : vec_capacity l.initial.held ≤ vec_capacity l.held;
  waiting_capacity : vec_capacity l.initial.waiting ≤ vec_capacity l.waiting;
  granted_capacity : vec_capacity l.initial.granted ≤ vec_capacity l.granted;
}
