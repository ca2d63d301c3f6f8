-- Whatever holds of each rule's outcome holds of every step: the case analysis of `Becomes`, for what needs little of each case.
-- Assumes nothing.
use Rattle.std.specs.Prelude.{ℕ, ◌≡◌, false, List, [], ◌∷◌, ◌++◌}
use Rattle.std.proofs.Math.Option.{Option, none, some}
use Rattle.answers.specs.declared.Answer.{Answer}
use Rattle.laws.specs.Lists.{on_at, without}
use Rattle.packets.specs.Meaning.{Ask, Offer}
use Rattle.records.specs.Class.{Class, class_of}
use Rattle.records.specs.Slots.{holds, set_slot, at_place}
use Rattle.records.specs.Face.{Face}
use Rattle.records.specs.Route.{with_class, new_route, with_hop}
use Rattle.records.specs.Entry.{Entry, with_nack}
use Rattle.records.specs.Stored.{Hit}
use Rattle.rules.specs.Node.{face_in, opens_face, Node, with_faces, with_routes, with_pending, What, Event}
use Rattle.rules.specs.Outcome.{Outcome, quiet, nack_for}
use Rattle.rules.specs.Ageing.{aged, ageing}
use Rattle.rules.specs.Interest.{Arrival, entry_of, opens_entry, served, asks_again}
use Rattle.rules.specs.Data.{satisfies}
use Rattle.rules.specs.Nack.{ends_by_nack}
use Rattle.rules.specs.Command.{face_of, close_step}
use Rattle.rules.specs.Step.{bad_face, after_ageing, step}
use Rattle.history.specs.Laws.Becomes.{arrival, asked, brought, GoodFace, good_face, came_face, aged_face, Past, Becomes, ignored, taken, becomes}
use Rattle.history.specs.Laws.Becomes as case

-- P holds of the outcome of each rule, for a node that has aged
pub record Rules (faces now : ℕ) (n : Node) (P : Outcome → Type 0) : Type 0 where
  -- a refusal without a send, and a clock reading
  pub quiets : (x : Answer) → P (quiet x n)
  -- a refusal of an Interest, with its Nack
  pub refuses : (x : Answer) (reason f : ℕ) (i : Ask) → P (nack_for x reason n f i)
  -- an Interest served from the store
  pub serves : (a : Arrival) (h : Hit) → P (served n a h)
  -- an Interest that opens an entry: there was none for it
  pub opens : (a : Arrival) (c : Class) (h : ℕ) → GoodFace faces n a.face → at_place (entry_of n a.ask) n.pending ≡ none
      → P (opens_entry now n a c h)
  -- an Interest that finds its entry
  pub joins : (a : Arrival) (e : Entry) → GoodFace faces n a.face → at_place (entry_of n a.ask) n.pending ≡ some e
      → P (asks_again now n a (entry_of n a.ask) e)
  -- Data that ends requests
  pub satisfied : (f : ℕ) (d : Offer) (bytes : List ℕ) → P (satisfies now n f d bytes)
  -- a Nack that leaves an out-record without one
  pub marks : (i f reason : ℕ) (e : Entry) → at_place i n.pending ≡ some e
      → P (quiet Answer.Done (with_pending n (on_at i (λ _. with_nack f reason e) n.pending)))
  -- a Nack that leaves all out-records Nacked
  pub nacks : (i f reason : ℕ) (e : Entry) → at_place i n.pending ≡ some e → P (ends_by_nack now n i (with_nack f reason e))
  -- a face opened, a face closed
  pub opens_face : (f : ℕ) (x : Face) → P (quiet Answer.Done (with_faces n (set_slot f (some x) n.faces)))
  pub closes_face : (f : ℕ) → GoodFace faces n f → P (close_step now n f)
  -- a route given a class, added or dropped; a hop added or dropped
  pub sets_class : (i : ℕ) (c : Class) → P (quiet Answer.Done (with_routes n (on_at i (with_class c) n.routes)))
  pub adds_route : (p : List ℕ) (c : Class) → P (quiet Answer.Done (with_routes n (n.routes ++ (new_route faces p c ∷ []))))
  pub drops_route : (i : ℕ) → P (quiet Answer.Done (with_routes n (without i n.routes)))
  pub sets_hop : (i f : ℕ) (x : Option ℕ) → P (quiet Answer.Done (with_routes n (on_at i (with_hop f x) n.routes)))

-- whatever an event comes to past the first three checks
by_past : (faces now : ℕ) (n : Node) (P : Outcome → Type 0) → Rules faces now n P → (w : What) (o : Outcome) → bad_face faces n w ≡ false
    → Past faces now n w o → P o
unfolding bad_face holds face_in opens_face
by_past faces now n P r w o fine (case.unread f a k) = r.quiets a
by_past faces now n P r w o fine (case.refused f a d) = r.quiets a
by_past faces now n P r w o fine (case.turned_away v a d) = r.quiets a
by_past faces now n P r w o fine case.ticked = r.quiets Answer.Done
by_past faces now n P r w o fine (case.nacked_back f q a reason k) = r.refuses a reason f (asked q)
by_past faces now n P r w o fine (case.served_from f q h found absent) = r.serves (arrival f q) h
by_past faces now n P r w o fine (case.opened f q x h a b c d) = r.opens (arrival f q) x.cls h (came_face faces n w f _ q.comes fine) a
by_past faces now n P r w o fine (case.joined f q x a) = r.joins (arrival f q) x (came_face faces n w f _ q.comes fine) a
by_past faces now n P r w o fine (case.satisfied f q a) = r.satisfied f (brought q) q.bytes
by_past faces now n P r w o fine (case.marked f q x a k z) = r.marks _ f q.reason x a
by_past faces now n P r w o fine (case.nacked_on f q x a k z) = r.nacks _ f q.reason x a
by_past faces now n P r w o fine (case.opens_face f scope link a) = r.opens_face f (face_of scope link)
by_past faces now n P r w o fine (case.closes_face f) = r.closes_face f (good_face faces n f fine)
by_past faces now n P r w o fine (case.sets_class c p a b) = r.sets_class _ (class_of c)
by_past faces now n P r w o fine (case.adds_route c p h a b d) = r.adds_route p (class_of c)
by_past faces now n P r w o fine (case.drops_route p a) = r.drops_route _
by_past faces now n P r w o fine (case.adds_hop f cost p a b) = r.sets_hop _ f (some cost)
by_past faces now n P r w o fine (case.drops_hop f p a) = r.sets_hop _ f none

-- the case analysis: P holds of a step where it holds of the answers 1 to 3, which change nothing, and where it follows for an outcome
-- after ageing from some Q that holds of each rule's outcome
pub by_rule : (faces least : ℕ) (e : Event) (n : Node) (P Q : Outcome → Type 0) → ((x : Answer) → P (quiet x n))
    → Rules faces e.time (aged e.time n) Q → ((o : Outcome) → Q o → P (after_ageing (ageing e.time n) o)) → P (step faces least e n)
by_rule faces least e n P Q q r j = go (step faces least e n) (becomes faces least e n)
  where
    go : (o : Outcome) → Becomes faces least e n o → P o
    go o (ignored a d) = q a
    go o (taken x t f k) = j x (by_past faces e.time (aged e.time n) Q r e.what x (aged_face faces e.time n e.what f) k)
