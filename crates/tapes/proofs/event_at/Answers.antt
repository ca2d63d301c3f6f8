-- What the event is past each of its numbers, and that it is none where one is missing.
use mathlib.Core.Path.{◌≡◌, sym, ◌∙◌}
use native.Mathlib.Omega.{arith}
use Rattle.tapes.specs.Places.Event.{taken_at, kind_at, time_at, face_at, first_at, second_at, bytes_at, end_at}
use Rattle.tapes.specs.Laws.Event.{numbered_bad, numbered_is, may_bad, may_is, kinded_bad, kinded_is, end_bad, end_is}
use Rattle.tapes.proofs.event_at.Goals as goal
use Rattle.tapes.proofs.event_at.Goals.{In_ok-number, In_ok-kind, In_ok-time, In_ok-face, In_ok-first, In_ok-second, In_ok-len}

-- past the number of its kind
past_number : (c : In_ok-number) → taken_at c.args.s.now c.args.at ≡ kind_at c.args.s.now c.in_ok-number.number c.in_ok-number.past_kind
unfolding taken_at
past_number c = numbered_is _ _ _ _ (sym c.number_at.ensures ∙ c.in_ok-number.was)

pub returns-in_err-number : goal.returns-in_err-number
unfolding taken_at
returns-in_err-number c = c.from_residual.ensures ∙ sym (numbered_bad _ _ (sym c.number_at.ensures ∙ c.in_err-number.was))

-- past its kind
past_kind : (c : In_ok-kind) → taken_at c.args.s.now c.args.at ≡ time_at c.args.s.now c.in_ok-kind.kind c.in_ok-number.past_kind
unfolding kind_at
past_kind c =
    past_number (goal.at.In_ok-kind c).In_ok-number
    ∙ kinded_is _ _ _ (rw (← c.try_from.ensures) (sym c.ok.ensures.value ∙ c.in_ok-kind.was))

pub returns-in_err-kind : goal.returns-in_err-kind
unfolding kind_at
returns-in_err-kind c =
    c.from_residual-in_err-kind.ensures
    ∙ sym (past_number (goal.at.returns-in_err-kind c).In_ok-number
    ∙ kinded_bad _ _ (rw (← c.try_from.ensures) (sym c.ok.ensures.value ∙ c.in_err-kind.was)))

-- past its time
past_time : (c : In_ok-time)
    → taken_at c.args.s.now c.args.at ≡ face_at c.args.s.now c.in_ok-kind.kind c.in_ok-time.time c.in_ok-time.past_time
unfolding time_at
past_time c = past_kind (goal.at.In_ok-time c).In_ok-kind ∙ numbered_is _ _ _ _ (sym c.number_at-2.ensures ∙ c.in_ok-time.was)

pub returns-in_err-time : goal.returns-in_err-time
unfolding time_at
returns-in_err-time c =
    c.from_residual-in_err-time.ensures
    ∙ sym (past_kind (goal.at.returns-in_err-time c).In_ok-kind ∙ numbered_bad _ _ (sym c.number_at-2.ensures ∙ c.in_err-time.was))

-- past its face
past_face : (c : In_ok-face)
    → taken_at c.args.s.now c.args.at ≡ first_at c.args.s.now c.in_ok-kind.kind c.in_ok-time.time c.in_ok-face.face c.in_ok-face.past_face
unfolding face_at
past_face c = past_time (goal.at.In_ok-face c).In_ok-time ∙ may_is _ _ _ c.has_face.ensures c.may_at.ensures c.in_ok-face.was

pub returns-in_err-face : goal.returns-in_err-face
unfolding face_at
returns-in_err-face c =
    c.from_residual-in_err-face.ensures
    ∙ sym (past_time (goal.at.returns-in_err-face c).In_ok-time ∙ may_bad _ _ _ c.has_face.ensures c.may_at.ensures c.in_err-face.was)

-- past its first number
past_first : (c : In_ok-first)
    → taken_at c.args.s.now c.args.at
    ≡ second_at c.args.s.now c.in_ok-kind.kind c.in_ok-time.time c.in_ok-face.face c.in_ok-first.first c.in_ok-first.past_first
unfolding first_at
past_first c = past_face (goal.at.In_ok-first c).In_ok-face ∙ may_is _ _ _ c.has_first.ensures c.may_at-2.ensures c.in_ok-first.was

pub returns-in_err-first : goal.returns-in_err-first
unfolding first_at
returns-in_err-first c =
    c.from_residual-in_err-first.ensures
    ∙ sym (past_face (goal.at.returns-in_err-first c).In_ok-face ∙ may_bad _ _ _ c.has_first.ensures c.may_at-2.ensures c.in_err-first.was)

-- past its second
past_second : (c : In_ok-second)
    → taken_at c.args.s.now c.args.at
    ≡ bytes_at c.args.s.now c.in_ok-kind.kind c.in_ok-time.time c.in_ok-face.face
    c.in_ok-first.first c.in_ok-second.second c.in_ok-second.past_second
unfolding second_at
past_second c = past_first (goal.at.In_ok-second c).In_ok-first ∙ may_is _ _ _ c.has_second.ensures c.may_at-3.ensures c.in_ok-second.was

pub returns-in_err-second : goal.returns-in_err-second
unfolding second_at
returns-in_err-second c =
    c.from_residual-in_err-second.ensures
    ∙ sym (past_first (goal.at.returns-in_err-second c).In_ok-first
    ∙ may_bad _ _ _ c.has_second.ensures c.may_at-3.ensures c.in_err-second.was)

-- past the length of its bytes
past_len : (c : In_ok-len)
    → taken_at c.args.s.now c.args.at
    ≡ end_at c.args.s.now c.in_ok-kind.kind c.in_ok-time.time c.in_ok-face.face
    c.in_ok-first.first c.in_ok-second.second c.in_ok-len.len c.in_ok-len.from
unfolding bytes_at
past_len c = past_second (goal.at.In_ok-len c).In_ok-second ∙ may_is _ _ _ c.has_bytes.ensures c.may_at-4.ensures c.in_ok-len.was

pub returns-in_err-len : goal.returns-in_err-len
unfolding bytes_at
returns-in_err-len c =
    c.from_residual-in_err-len.ensures
    ∙ sym (past_second (goal.at.returns-in_err-len c).In_ok-second ∙ may_bad _ _ _ c.has_bytes.ensures c.may_at-4.ensures c.in_err-len.was)

pub returns-then-saturating_sub-len : goal.returns-then-saturating_sub-len
returns-then-saturating_sub-len c =
    sym (past_len (goal.at.returns-then-saturating_sub-len c).In_ok-len ∙ end_bad _ _ _ _ _ _ _ _ (omega (arith, c.saturating_sub.ensures)))

pub overflow_add-result : goal.overflow_add-result
overflow_add-result c = omega (arith, c.saturating_sub.ensures)

pub returns : goal.returns
returns c = sym (past_len (goal.at.returns c).In_ok-len ∙ end_is _ _ _ _ _ _ _ _ (omega (arith, c.saturating_sub.ensures)))
