-- A Nack that came in, by what the code asks in order: what is against it, its scope, its face, and the entry.
-- Assumes nothing.
use Rattle.std.specs.Prelude.{ℕ, Bool, List, ◌≢◌}
use Rattle.std.proofs.Math.Path.{◌≡◌, refl, ap}
use Rattle.std.proofs.Common.{sym, ◌∙◌, arith}
use Rattle.std.proofs.Math.Bool.{true, false}
use Rattle.std.proofs.Math.Option.{Option, none, some}
use Rattle.answers.specs.declared.Answer.{Answer}
use Rattle.answers.specs.Number.{number_of}
use Rattle.laws.specs.Lists.{index_of}
use Rattle.laws.specs.Laws.Pick.{pick_yes, pick_no}
use Rattle.packets.specs.Meaning.{Ask}
use Rattle.records.specs.Face.{is_peer}
use Rattle.records.specs.Slots.{at_place, given}
use Rattle.records.specs.Entry.{Entry, is_known, sent_nonce, with_nack}
use Rattle.rules.specs.Node.{Node}
use Rattle.rules.specs.Outcome.{Outcome, quiet}
use Rattle.rules.specs.Interest.{entry_of, out_of_scope}
use Rattle.rules.specs.Nack.{nacked_entry, sent_back, nack_step}
use Rattle.event.specs.declared.Came.{Came}
use Rattle.event.specs.Memory.{Output}
use Rattle.coming.specs.Goes.{Goes, guard_says, guarded}
use Rattle.coming.specs.Laws.Guard.{guard_stops, guard_goes}
use Rattle.coming.specs.Laws.Goes.{goes_by}
use Rattle.on_nack.specs.Laws.Known.{found_passes}
use Rattle.on_nack.specs.Laws.Turns.{turn_quiet}

module _ (x : Outcome) (k room packet name : ℕ) (y : Answer) (r : Came) (n : Node) (o : Output) (w : y ≡ guard_says n.time room packet name)
  where
    -- what is refused leaves everything as it was
    pub goes_refused : number_of y ≢ 0 → r ≡ record { answer = y; sent = 0; made = k } → Goes k (guarded room packet name n x) r n o o
    goes_refused d i = turn_quiet _ y k r n o (guard_stops n x room packet name y w d) i

    -- what goes on comes to what is made of it
    pub goes_turns : (n' : Node) (o' : Output) → number_of y ≡ 0 → Goes k x r n' o o' → Goes k (guarded room packet name n x) r n' o o'
    goes_turns n' o' d t = goes_by _ _ _ _ _ _ _ (guard_goes n x room packet name y w d) t

module _ (n : Node) (k : ℕ) (r : Came) (o : Output) (f reason : ℕ) (a : Ask) (name : List ℕ) (named : a.name ≡ name) (b : Bool)
    (scope : b ≡ out_of_scope n f name) where
  -- what the code asks of the scope is what the rules ask
  outside : out_of_scope n f a.name ≡ b
  outside = ap (out_of_scope n f) named ∙ sym scope

  -- under /localhost from a non-local face
  pub nack_scope : b ≡ true → r ≡ record { answer = Answer.Scope; sent = 0; made = k } → Goes k (nack_step n.time n f reason a) r n o o
  unfolding nack_step
  nack_scope y e = turn_quiet _ Answer.Scope k r n o (pick_yes _ _ _ (outside ∙ y)) e

  module _ (z : Bool) (peer : z ≡ is_peer n.faces f) (inside : b ≡ false) where
    -- on a face that is not point-to-point
    pub nack_other : z ≡ false → r ≡ record { answer = Answer.StaleNack; sent = 0; made = k }
        → Goes k (nack_step n.time n f reason a) r n o o
    unfolding nack_step
    nack_other y e =
        turn_quiet _ Answer.StaleNack k r n o (pick_no _ _ _ (outside ∙ inside) ∙ pick_no _ _ _ (sym peer ∙ y)) e

    module _ (on : z ≡ true) (p m : Bool) (nonce : ℕ) (prefix : a.can_be_prefix ≡ p) (fresh : a.must_be_fresh ≡ m) (own : a.nonce ≡ nonce)
        (i : ℕ) (at : i ≡ index_of (is_known name p m) n.pending) (v : Bool)
        (said : v ≡ given false (sent_nonce f nonce) (at_place i n.pending)) where
      -- the place of the entry
      entry_is : entry_of n a ≡ i
      unfolding entry_of
      entry_is = rw (named, prefix, fresh) (sym at)

      -- the outcome by the entry
      by_entry : nack_step n.time n f reason a
          ≡ given (quiet Answer.StaleNack n) (sent_back n.time n f reason a) (at_place i n.pending)
      unfolding nack_step
      by_entry =
          pick_no _ _ _ (outside ∙ inside) ∙ pick_yes _ _ _ (sym peer ∙ on)
          ∙ ap (λ (j : ℕ). given (quiet Answer.StaleNack n) (sent_back n.time n f reason a) (at_place j n.pending)) entry_is

      -- with no out-record with this nonce in that entry
      pub nack_stale : v ≡ false → r ≡ record { answer = Answer.StaleNack; sent = 0; made = k }
          → Goes k (nack_step n.time n f reason a) r n o o
      unfolding sent_back given
      nack_stale y e =
          turn_quiet _ Answer.StaleNack k r n o (by_entry ∙ go (at_place i n.pending) (sym said ∙ y)) e
        where
          go : (x : Option Entry) → given false (sent_nonce f nonce) x ≡ false
              → given (quiet Answer.StaleNack n) (sent_back n.time n f reason a) x ≡ quiet Answer.StaleNack n
          go none w = refl
          go (some e) w = pick_no _ _ _ (ap (λ (j : ℕ). sent_nonce f j e) own ∙ w)

      -- with one, the out-record is marked
      pub nack_marked : v ≡ true → (n' : Node) (o' : Output)
          → ((e : Entry) → at_place i n.pending ≡ some e → is_known name p m e ≡ true
          → Goes k (nacked_entry n.time n i (with_nack f reason e)) r n' o o')
          → Goes k (nack_step n.time n f reason a) r n' o o'
      unfolding sent_back given
      nack_marked y n' o' h = go (at_place i n.pending) refl (sym said ∙ y)
        where
          go : (x : Option Entry) → at_place i n.pending ≡ x → given false (sent_nonce f nonce) x ≡ true
              → Goes k (nack_step n.time n f reason a) r n' o o'
          go none w q = let c : ◌≡◌ {A = ℕ} 0 1 = cc in absurd (omega arith)
          go (some e) w q =
              goes_by k _ (nacked_entry n.time n i (with_nack f reason e)) r n' o o'
              (by_entry ∙ (ap (given (quiet Answer.StaleNack n) (sent_back n.time n f reason a)) w
              ∙ (pick_yes _ _ _ (ap (λ (j : ℕ). sent_nonce f j e) own ∙ q)
              ∙ ap (λ (j : ℕ). nacked_entry n.time n j (with_nack f reason e)) entry_is)))
              (h e w (found_passes (is_known name p m) n.pending e (ap (λ (j : ℕ). at_place j n.pending) (sym at) ∙ w)))
