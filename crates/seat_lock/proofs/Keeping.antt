-- What the steps on the table have in common.
use Rattle.std.proofs.Common.{◌≡◌, ◌≢◌, ℕ, ◌+◌, ◌%◌, ◌^◌, ◌<◌, Bool, true, false, List, [], ◌∷◌, ◌++◌, length, set, Option, Some, None, slice_index, slice_set, sym, refl, ap, ◌∙◌, subst, ⊎_elim, inl, inr, true≢false, eq-eqb, ne_eqb, arith}
use Rattle.std.proofs.Math.Nat.{add-mod}
use mathlib.Core.Option.{some, some-injective}
use lib.ListN.{get_elem?}
use Rattle.atomic_table.specs.Table.{State}
use Rattle.atomic_table.proofs.Lists.{at_set, at_snoc}
use Rattle.seat_lock.specs.declared.views.View.{View}
use Rattle.seat_lock.specs.Rule.{total, one_if, tickets, tickets_at, times, IsOut, HasNumbers, HasTickets, Fits, HasPlace, Kept}
use Rattle.seat_lock.proofs.Sums.{total-set, total-two, total-some}

pub mod-next : (n : ℕ) → (n % 2 ^ 64 + 1) % 2 ^ 64 ≡ (n + 1) % 2 ^ 64
mod-next n = sym (add-mod n 1 (2 ^ 64))

-- a list of two words after a step on one of them
pub words-turn : (ws : List ℕ) (a b : ℕ) (f : ℕ → ℕ) → ws ≡ a ∷ b ∷ []
    → slice_set ws 0 (f (slice_index ws 0)) ≡ f a ∷ b ∷ []
words-turn ws a b f is = ap (λ l. slice_set l 0 (f (slice_index l 0))) is

pub words-drawn : (ws : List ℕ) (a b : ℕ) (f : ℕ → ℕ) → ws ≡ a ∷ b ∷ []
    → slice_set ws 1 (f (slice_index ws 1)) ≡ a ∷ f b ∷ []
words-drawn ws a b f is = ap (λ l. slice_set l 1 (f (slice_index l 1))) is

pub one-true : (test : Bool) → 0 < one_if test → test ≡ true
one-true true more = refl
one-true false more = absurd (omega arith)

pub ticket-here : (t : ℕ) → tickets_at t (Some t) ≡ 1
ticket-here t = ap one_if (eq-eqb t t refl)

pub ticket-there : (t place : ℕ) → t ≢ place → tickets_at place (Some t) ≡ 0
ticket-there t place other = ap one_if (ne_eqb t place other)

pub out-later : (turn drawn : ℕ) (ticket : Option ℕ) → IsOut turn drawn ticket → IsOut turn (drawn + 1) ticket
out-later turn drawn None out = tt
out-later turn drawn (Some t) out = let a = out.0 in let b = out.1 in (a, omega arith)

pub out-next : (turn drawn : ℕ) (ticket : Option ℕ) → tickets_at turn ticket ≡ 0 → IsOut turn drawn ticket
    → IsOut (turn + 1) drawn ticket
out-next turn drawn None free out = tt
out-next turn drawn (Some t) free out =
    let a = out.0 in let b = out.1 in let other : t ≢ turn = (λ same. let here = ap one_if (eq-eqb t turn same) in omega arith) in (omega arith, b)

module _ {E : Type 0} where
  pub each-set : (P : View E → Type 0) (views : List (View E)) (i : ℕ) (w : View E) → P w
      → ((j : ℕ) (u : View E) → j ≢ i → get_elem? views j ≡ some u → P u)
      → (j : ℕ) (u : View E) → get_elem? (set views i w) j ≡ some u → P u
  each-set P views i w new others j u e =
      ⊎_elim (λ (t : (j ≡ i) × (w ≡ u)). subst P t.1 new) (λ (t : (j ≢ i) × (get_elem? views j ≡ some u)). others j u t.0 t.1) (at_set views i j w u e)

  pub each-snoc : (P : View E → Type 0) (views : List (View E)) (w : View E) → P w
      → ((j : ℕ) (u : View E) → get_elem? views j ≡ some u → P u)
      → (j : ℕ) (u : View E) → get_elem? (views ++ w ∷ []) j ≡ some u → P u
  each-snoc P views w new others j u e =
      ⊎_elim (λ was. others j u was) (λ same. subst P same new) (at_snoc views w u j e)

  pub numbers-stay : (seats : ℕ) (views : List (View E)) (i : ℕ) (v w : View E) → get_elem? views i ≡ some v
      → length w.mine ≡ length v.mine
      → ((number : ℕ) → times number w.mine ≡ times number v.mine) → HasNumbers seats views
      → HasNumbers seats (set views i w)
  numbers-stay seats views i v w at len same h = record {
    count = (let moved = total-set (λ (u : View E). length u.mine) views i v w at in let was = h.count in omega arith);
    single = (λ n. let moved = total-set (λ (u : View E). times n u.mine) views i v w at in let now = same n in let was = h.single n in omega arith);
    known = (λ n out. let moved = total-set (λ (u : View E). times n u.mine) views i v w at in let now = same n in let was = h.known n out in omega arith);
  }

  pub tickets-stay : (turn drawn : ℕ) (views : List (View E)) (i : ℕ) (v w : View E) → get_elem? views i ≡ some v
      → w.ticket ≡ v.ticket → HasTickets turn drawn views → HasTickets turn drawn (set views i w)
  tickets-stay turn drawn views i v w at same h = record {
    out = (let moved = total-set (λ (u : View E). tickets u.ticket) views i v w at in let now = ap tickets same in let was = h.out in omega arith);
    apart = (λ t. let moved = total-set (λ (u : View E). tickets_at t u.ticket) views i v w at in let now = ap (tickets_at t) same in let was = h.apart t in omega arith);
  }

  pub holds-stay : (views : List (View E)) (i : ℕ) (v w : View E) → get_elem? views i ≡ some v → w.holds ≡ v.holds
      → total (λ (u : View E). one_if u.holds) (set views i w) ≡ total (λ (u : View E). one_if u.holds) views
  holds-stay views i v w at same =
      let moved = total-set (λ (u : View E). one_if u.holds) views i v w at in let now = ap one_if same in omega arith

module _ {E V : Type 0} (maker : E → ℕ) (stands : V → List E → Type 0) (start : List E) (seats : ℕ) where
  -- the value stays where it is while as many views hold it
  pub slot-stays : (log : List E) (s : State (Option V) (View E)) (words : List ℕ) (views : List (View E))
      → total (λ (u : View E). one_if u.holds) views ≡ total (λ (u : View E). one_if u.holds) s.views
      → HasPlace stands log s
      → HasPlace stands log record { words = words; homes = s.homes; views = views }
  slot-stays log s words views same place =
      ⊎_elim (λ h. inl (h.0, h.1, h.2, same ∙ h.3)) (λ h. inr (h.0, same ∙ h.1)) place

  -- a step after which the seat has what it had, and the value is where it was
  pub calm : (s : State (Option V) (View E)) (k : Kept maker stands start seats s) (id : ℕ) (v w : View E)
      → get_elem? s.views id ≡ some v
      → (words : List ℕ) (drawn : ℕ) → words ≡ k.turn % 2 ^ 64 ∷ drawn % 2 ^ 64 ∷ [] → w.mine ≡ v.mine
      → w.holds ≡ v.holds
      → HasTickets k.turn drawn (set s.views id w)
      → ((ticket : Option ℕ) → IsOut k.turn k.drawn ticket → IsOut k.turn drawn ticket)
      → Fits maker k.turn drawn k.log w
      → Kept maker stands start seats record { words = words; homes = s.homes; views = set s.views id w }
  calm s k id v w at words drawn is mine holds out later fits = record {
    turn = k.turn;
    drawn = drawn;
    log = k.log;
    few = k.few;
    words = is;
    numbers = numbers-stay seats s.views id v w at (ap length mine) (λ n. ap (times n) mine) k.numbers;
    tickets_out = out;
    each = each-set (Fits maker k.turn drawn k.log) s.views id w fits (λ j u other e. let was = k.each j u e in record {
      ticket = later u.ticket was.ticket;
      few = was.few;
      seen = was.seen;
      beside = was.beside;
      own = was.own;
      holder = was.holder;
    });
    first = k.first;
    others = k.others;
    slot = slot-stays k.log s words (set s.views id w) (holds-stay s.views id v w at holds) k.slot;
  }

  -- who holds the value has the ticket of the turn, so no other view with that ticket can find it out
  pub held-by : (s : State (Option V) (View E)) (k : Kept maker stands start seats s) (id : ℕ) (v : View E)
      → get_elem? s.views id ≡ some v → v.holds ≡ false
      → 0 < total (λ (u : View E). one_if u.holds) s.views
      → (j : ℕ) × (u : View E) × (get_elem? s.views j ≡ some u) × (j ≢ id) × (u.ticket ≡ Some k.turn)
  held-by s k id v at free some_hold =
      let found = total-some (λ (u : View E). one_if u.holds) s.views some_hold in
      let holds = one-true (found.1).holds found.3 in
      let fits = k.each found.0 found.1 found.2 in (
        found.0,
        found.1,
        found.2,
        (λ same. let one : v ≡ found.1 = some-injective v found.1 (sym at ∙ (ap (get_elem? s.views) (sym same) ∙ found.2)) in
            true≢false (sym holds ∙ (ap (λ (u : View E). u.holds) (sym one) ∙ free))),
        (fits.holder holds).0,
      )

  pub taken : (s : State (Option V) (View E)) (k : Kept maker stands start seats s) (id : ℕ) (v : View E)
      → get_elem? s.views id ≡ some v → v.holds ≡ false → v.ticket ≡ Some k.turn
      → (value : V) × (s.homes ≡ some (Some value) ∷ []) × stands value k.log
      × (total (λ (u : View E). one_if u.holds) s.views ≡ 0)
  taken s k id v at free mine =
      ⊎_elim (λ home. home)
      (λ out.
      let one = out.1 in let other = held-by s k id v at free (omega arith) in
      let two = total-two (λ (u : View E). tickets_at k.turn u.ticket) s.views other.0 id other.1 v other.3 other.2 at in
      let a : tickets_at k.turn (other.1).ticket ≡ 1 = ap (tickets_at k.turn) other.4 ∙ ticket-here k.turn in
      let b : tickets_at k.turn v.ticket ≡ 1 = ap (tickets_at k.turn) mine ∙ ticket-here k.turn in
      let most = k.tickets_out.apart k.turn in
      absurd (omega arith))
      k.slot

  -- a seat with all numbers that doesn't hold the value: nobody does
  pub closing : (s : State (Option V) (View E)) (k : Kept maker stands start seats s) (id : ℕ) (v : View E)
      → get_elem? s.views id ≡ some v → v.holds ≡ false → length v.mine ≡ seats
      → (value : V) × (s.homes ≡ some (Some value) ∷ []) × stands value k.log
  closing s k id v at free all =
      ⊎_elim (λ home. (home.0, home.1, home.2))
      (λ out.
      let one = out.1 in let other = held-by s k id v at free (omega arith) in
      let two = total-two (λ (u : View E). length u.mine) s.views other.0 id other.1 v other.3 other.2 at in
      let few = (k.each other.0 other.1 other.2).few in
      let a : tickets (other.1).ticket ≡ 1 = ap tickets other.4 in
      let most = k.numbers.count in
      absurd (omega arith))
      k.slot
