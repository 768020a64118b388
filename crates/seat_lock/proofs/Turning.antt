-- Each step on the table keeps its rule.
use Rattle.std.proofs.Common.{◌≡◌, ◌≢◌, ℕ, zero, suc, ◌+◌, ◌%◌, ◌^◌, ◌<◌, ◌≤◌, Bool, true, false, ◌==◌, List, [], ◌∷◌, ◌++◌, length, set, take, drop, append-nil, length-append, take-append-drop, MatchBool, Option, Some, None, slice_index, slice_set, sym, refl, ap, ◌∙◌, subst, ⊎_elim, inl, inr, true≢false, eqb-true, arith}
use Rattle.std.proofs.lemmas.Option.{none-some}
use Rattle.std.specs.Option.{unwrap_or}
use mathlib.Core.Option.{none, some, some-injective, some-ne-none}
use mathlib.Core.Logic.{dite}
use native.Mathlib.Decide.{ℕ_discrete}
use lib.ListN.{get_elem?}
use Rattle.atomic_table.specs.Table.{State, Me, step, Act, keeps, takes, gives, rest, put_back, Valid, carried_after, stepped, Allows, Splits, Joins, Enters as Arrivals, opening}
use Rattle.atomic_table.proofs.Lists.{at_set, one_turn}
use Rattle.seat_lock.specs.declared.views.View.{View}
use Rattle.seat_lock.specs.Views.{with_ticket, holder_view, compared_view, joint_view, empty_view, rest_view, dealt_view, ended_view, first_view}
use Rattle.seat_lock.specs.Rule.{total, one_if, tickets, tickets_at, times, IsOut, HasTickets, Fits, Kept}
use Rattle.seat_lock.specs.Steps.{Draws, Looks, Ends, Compares, Comes, Enters}
use Rattle.seat_lock.specs.Boards.{CanGain, IsShut}
use Rattle.seat_lock.specs.Story.{made_by, HasNoMaker}
use Rattle.seat_lock.proofs.Sums.{total-set, total-append, total-cut, total-one, total-two, total-none, total-below}
use Rattle.seat_lock.proofs.Prefixes.{prefix-self, prefix-none, prefix-more, longer-begins, longer-whole}
use Rattle.seat_lock.proofs.Entries.{made-append, within-log, owns-append, owns-take, owns-drop, owns-gained, owns-others, times-gained, length-gained, made-by-nobody, made-by-none, owns-numbers}
use Rattle.seat_lock.proofs.Numbers.{length-numbers, times-single, times-below, times-above}
use Rattle.seat_lock.proofs.Keeping.{mod-next, words-turn, words-drawn, ticket-here, ticket-there, out-later, out-next, each-set, each-snoc, numbers-stay, tickets-stay, slot-stays, calm, taken, closing}

module _ {E V : Type 0} (maker : E → ℕ) (stands : V → List E → Type 0) (start : List E) (seats : ℕ) where
  abbrev Board : Type 0
  Board = State (Option V) (View E)

  abbrev Rule : Board → Type 0
  Rule = Kept maker stands start seats

  -- the ticket that is drawn next is nobody's yet
  fresh : (s : Board) (k : Rule s) → total (λ (u : View E). tickets_at k.drawn u.ticket) s.views ≡ 0
  fresh s k =
      total-none (λ (u : View E). tickets_at k.drawn u.ticket) s.views (λ j u e. by_ticket u.ticket (k.each j u e).ticket)
    where
      by_ticket : (ticket : Option ℕ) → IsOut k.turn k.drawn ticket → tickets_at k.drawn ticket ≡ 0
      by_ticket None out = refl
      by_ticket (Some t) out = let below = out.1 in ticket-there t k.drawn (λ same. omega arith)

  pub draws : (id : ℕ) (me : Me (Option V) (View E)) (slots : ℕ) → me.0.ticket ≡ None → 0 < length me.0.mine
      → Allows Rule slots id me 1 (λ n. (n + 1) % 2 ^ 64) (Draws (step slots 1 1 0 none) me)
  draws id me slots without number s k deep at below =
      let v = me.0 in
      let w = with_ticket (Some k.drawn) v in
      let fits = k.each id v at in
      let out = k.tickets_out.out in
      let mine_none : tickets v.ticket ≡ 0 = ap tickets without in (
        w,
        keeps,
        tt,
        calm maker stands start seats s k id v w at _ (k.drawn + 1) (words-drawn s.words _ _ (λ n. (n + 1) % 2 ^ 64) k.words ∙ ap (λ n. k.turn % 2 ^ 64 ∷ n ∷ []) (mod-next k.drawn)) refl refl
            record {
              out = (let moved = total-set (λ (u : View E). tickets u.ticket) s.views id v w at in omega arith);
              apart = (λ t.
                  let moved = total-set (λ (u : View E). tickets_at t u.ticket) s.views id v w at in
                  dite (ℕ_discrete k.drawn t)
                  (λ same. let zero_before = subst (λ n. total (λ (u : View E). tickets_at n u.ticket) s.views ≡ 0) same (fresh s k) in let most = at_most t k.drawn in omega arith)
                  (λ other. let nothing = ticket-there k.drawn t other in let was = k.tickets_out.apart t in omega arith));
            }
            (out-later k.turn k.drawn)
            record {
              ticket = (omega arith, omega arith);
              few = (omega arith);
              seen = fits.seen;
              beside = fits.beside;
              own = fits.own;
              holder = (λ holds. absurd (none-some k.turn (sym without ∙ (fits.holder holds).0)));
            },
        (k.drawn, ap (λ ws. slice_index ws 1) k.words, refl),
      )
    where
      at_most : (t n : ℕ) → tickets_at t (Some n) ≤ 1
      at_most t n = by_test (n == t)
        where
          by_test : (b : Bool) → one_if b ≤ 1
          by_test true = omega arith
          by_test false = omega arith

  -- a word that is read and stays
  words-same : (s : Board) (k : Rule s)
      → slice_set s.words 0 (slice_index s.words 0) ≡ k.turn % 2 ^ 64 ∷ k.drawn % 2 ^ 64 ∷ []
  words-same s k = words-turn s.words _ _ (λ n. n) k.words

  pub compares : (id : ℕ) (me : Me (Option V) (View E)) (slots : ℕ)
      → Allows Rule slots id me 0 (λ n. n) (Compares maker (step slots 0 0 0 none) me)
  compares id me slots s k deep at below =
      let v = me.0 in
      let w = compared_view v in
      let fits = k.each id v at in
      let both = longer-begins v.seen v.beside k.log fits.seen fits.beside in (
        w,
        keeps,
        tt,
        calm maker stands start seats s k id v w at _ k.drawn (words-same s k) refl refl (tickets-stay k.turn k.drawn s.views id v w at refl k.tickets_out) (λ ticket out. out)
            record {
              ticket = fits.ticket;
              few = fits.few;
              seen = both.whole;
              beside = prefix-none k.log;
              own = fits.own;
              holder = (λ holds. let held = fits.holder holds in
                  (held.0, longer-whole v.seen v.beside k.log held.1 fits.beside));
            },
        (refl, both.first, both.second, within-log maker w.seen k.log v.mine both.whole fits.own),
      )

  -- the seat's turn has come: it takes the value
  takes-turn : (id : ℕ) (me : Me (Option V) (View E)) (ticket : ℕ) → me.0.ticket ≡ Some ticket → me.0.holds ≡ false
      → (s : Board) (k : Rule s) → get_elem? s.views id ≡ some me.0 → k.turn ≡ ticket
      → (w : View E) × (a : Act (Option V)) × Valid s.homes me.1 a
      × Rule (stepped s 0 (slice_index s.words 0) id me.1 w a) × Enters maker stands me (w, carried_after me.1 a)
  takes-turn id me ticket mine free s k at same =
      let v = me.0 in
      let w = holder_view k.log v in
      let fits = k.each id v at in
      let turn : v.ticket ≡ Some k.turn = mine ∙ ap (λ t. Some t) (sym same) in
      let home = taken maker stands start seats s k id v at free turn in (
        w,
        takes 0 (Some home.0),
        ap (λ hs. get_elem? hs 0) home.1,
        record {
          turn = k.turn;
          drawn = k.drawn;
          log = k.log;
          few = k.few;
          words = words-same s k;
          numbers = numbers-stay seats s.views id v w at refl (λ n. refl) k.numbers;
          tickets_out = tickets-stay k.turn k.drawn s.views id v w at refl k.tickets_out;
          each = each-set (Fits maker k.turn k.drawn k.log) s.views id w
              record {
                ticket = fits.ticket;
                few = fits.few;
                seen = prefix-self k.log;
                beside = fits.beside;
                own = fits.own;
                holder = (λ holds. (turn, refl));
              }
              (λ j u other e. k.each j u e);
          first = k.first;
          others = k.others;
          slot = inr (ap (λ hs. slice_set hs 0 none) home.1, (let moved = total-set (λ (u : View E). one_if u.holds) s.views id v w at in let was : one_if v.holds ≡ 0 = ap one_if free in let nobody = home.3 in omega arith));
        },
        record { value = home.0; stands_for = home.2; seen = fits.seen; own = fits.own; after_is = refl },
      )

  -- two tickets that are out and equal modulo 2^64 are one
  turn-is : (id : ℕ) (v : View E) (ticket : ℕ) → v.ticket ≡ Some ticket → (s : Board) (k : Rule s)
      → get_elem? s.views id ≡ some v → slice_index s.words 0 ≡ ticket % 2 ^ 64 → k.turn ≡ ticket
  turn-is id v ticket mine s k at found =
      let out : IsOut k.turn k.drawn (Some ticket) = subst (IsOut k.turn k.drawn) mine (k.each id v at).ticket in
      let most = total-below (λ (u : View E). tickets u.ticket) (λ (u : View E). length u.mine) s.views (λ j u e. (k.each j u e).few) in
      let count = k.numbers.count in
      let drawn = k.tickets_out.out in
      let few = k.few in
      let low = out.0 in
      let high = out.1 in
      one_turn k.turn ticket (2 ^ 64) low (omega arith) (sym (ap (λ ws. slice_index ws 0) k.words) ∙ found)

  pub looks : (id : ℕ) (me : Me (Option V) (View E)) (slots ticket : ℕ) → me.0.ticket ≡ Some ticket → me.0.holds ≡ false
      → Allows Rule slots id me 0 (λ n. n) (Looks maker stands (step slots 0 0 0 none) me)
  looks id me slots ticket mine free s k deep at below = by_test (slice_index s.words 0 == ticket % 2 ^ 64) refl
    where
      told : (b : Bool) (after : Me (Option V) (View E)) → (slice_index s.words 0 == ticket % 2 ^ 64) ≡ b
          → MatchBool b (Enters maker stands me after) (after ≡ me)
          → Looks maker stands (step slots 0 0 0 none) me (slice_index s.words 0) after
      told b after is fact t e =
          let same : ticket ≡ t = ap (λ o. unwrap_or o 0) (sym mine ∙ e) in
          subst (λ n. MatchBool (slice_index s.words 0 == n % 2 ^ 64) (Enters maker stands me after) (after ≡ me)) same (subst (λ c. MatchBool c (Enters maker stands me after) (after ≡ me)) (sym is) fact)

      by_test : (b : Bool) → (slice_index s.words 0 == ticket % 2 ^ 64) ≡ b
          → (w : View E) × (a : Act (Option V)) × Valid s.homes me.1 a
          × Rule (stepped s 0 (slice_index s.words 0) id me.1 w a)
          × Looks maker stands (step slots 0 0 0 none) me (slice_index s.words 0) (w, carried_after me.1 a)
      by_test true is =
          let went = takes-turn id me ticket mine free s k at (turn-is id me.0 ticket mine s k at (eqb-true (slice_index s.words 0) (ticket % 2 ^ 64) is)) in
          (went.0, went.1, went.2, went.3, told true (went.0, carried_after me.1 went.1) is went.4)
      by_test false is = (
        me.0,
        keeps,
        tt,
        calm maker stands start seats s k id me.0 me.0 at _ k.drawn (words-same s k) refl refl (tickets-stay k.turn k.drawn s.views id me.0 me.0 at refl k.tickets_out) (λ t out. out) (k.each id me.0 at),
        told false me is refl,
      )

  -- no number of another view is a number of this one
  apart : (s : Board) (k : Rule s) (id : ℕ) (v : View E) (j : ℕ) (u : View E) → get_elem? s.views id ≡ some v
      → get_elem? s.views j ≡ some u → j ≢ id → (number : ℕ) → 0 < times number u.mine → times number v.mine ≡ 0
  apart s k id v j u at there other number more =
      let two = total-two (λ (x : View E). times number x.mine) s.views j id u v other there at in let most = k.numbers.single number in omega arith

  -- what is left when the owner of a turn ends it: the others have no ticket of that turn, and none holds the value
  module _ (added : List E) (id : ℕ) (v : View E) (holds : v.holds ≡ true) (gains : CanGain maker added v.mine) (s : Board) (k : Rule s) (at : get_elem? s.views id ≡ some v) where
    abbrev after : View E
    after = ended_view maker added v

    mine_is : (v.ticket ≡ Some k.turn) × (v.seen ≡ k.log)
    mine_is = (k.each id v at).holder holds

    one_out : total (λ (u : View E). tickets u.ticket) (set s.views id after) + 1
        ≡ total (λ (u : View E). tickets u.ticket) s.views
    one_out =
        let moved = total-set (λ (u : View E). tickets u.ticket) s.views id v after at in
        let was : tickets v.ticket ≡ 1 = ap tickets mine_is.0 in omega arith

    tickets-next : HasTickets (k.turn + 1) k.drawn (set s.views id after)
    tickets-next = record {
      out = (let less = one_out in let was = k.tickets_out.out in omega arith);
      apart = (λ t. let moved = total-set (λ (u : View E). tickets_at t u.ticket) s.views id v after at in let most = k.tickets_out.apart t in omega arith);
    }

    other-ticket : (j : ℕ) (u : View E) → j ≢ id → get_elem? s.views j ≡ some u → tickets_at k.turn u.ticket ≡ 0
    other-ticket j u other e =
        let two = total-two (λ (x : View E). tickets_at k.turn x.ticket) s.views j id u v other e at in
        let mine : tickets_at k.turn v.ticket ≡ 1 = ap (tickets_at k.turn) mine_is.0 ∙ ticket-here k.turn in
        let most = k.tickets_out.apart k.turn in omega arith

    other-free : (j : ℕ) (u : View E) → j ≢ id → get_elem? s.views j ≡ some u → u.holds ≡ true → ⊥
    other-free j u other e has =
        let two = total-two (λ (x : View E). tickets_at k.turn x.ticket) s.views j id u v other e at in
        let mine : tickets_at k.turn v.ticket ≡ 1 = ap (tickets_at k.turn) mine_is.0 ∙ ticket-here k.turn in
        let theirs : tickets_at k.turn u.ticket ≡ 1 = ap (tickets_at k.turn) ((k.each j u e).holder has).0 ∙ ticket-here k.turn in
        let most = k.tickets_out.apart k.turn in absurd (omega arith)

    gains-nothing : (number : ℕ) → total (λ (u : View E). times number u.mine) s.views ≡ 0
        → made_by maker number added ≡ []
    gains-nothing number nobody =
        gains number (let one = total-one (λ (u : View E). times number u.mine) s.views id v at in omega arith)

    log-next : (number : ℕ) (found : List E) → made_by maker number k.log ≡ found
        → total (λ (u : View E). times number u.mine) s.views ≡ 0 → made_by maker number (k.log ++ added) ≡ found
    log-next number found was nobody =
        made-append maker number k.log added
        ∙ (ap (λ l. made_by maker number k.log ++ l) (gains-nothing number nobody) ∙ (append-nil (made_by maker number k.log) ∙ was))

    fits-next : Fits maker (k.turn + 1) k.drawn (k.log ++ added) after
    fits-next = let was = k.each id v at in record {
      ticket = tt;
      few = (omega arith);
      seen = ([], append-nil (v.seen ++ added) ∙ ap (λ l. l ++ added) mine_is.1);
      beside = prefix-more v.beside k.log added was.beside;
      own = owns-gained maker k.log added v.mine was.own;
      holder = (λ held. absurd (true≢false (sym held)));
    }

    others-next : (j : ℕ) (u : View E) → j ≢ id → get_elem? s.views j ≡ some u
        → Fits maker (k.turn + 1) k.drawn (k.log ++ added) u
    others-next j u other e = let was = k.each j u e in record {
      ticket = out-next k.turn k.drawn u.ticket (other-ticket j u other e) was.ticket;
      few = was.few;
      seen = prefix-more u.seen k.log added was.seen;
      beside = prefix-more u.beside k.log added was.beside;
      own = owns-others maker k.log added u.mine (λ number more. gains number (apart s k id v j u at e other number more)) was.own;
      holder = (λ held. absurd (other-free j u other e held));
    }

    out-now : (s.homes ≡ none ∷ []) × (total (λ (u : View E). one_if u.holds) s.views ≡ 1)
    out-now =
        ⊎_elim
        (λ home.
        let nobody = home.3 in
        let one = total-one (λ (u : View E). one_if u.holds) s.views id v at in
        let mine : one_if v.holds ≡ 1 = ap one_if holds in
        absurd (omega arith))
        (λ out. out)
        k.slot

    ended-keeps : (value : V) → stands value (v.seen ++ added)
        → (words : List ℕ) (homes : List (mathlib.Core.Option.Option (Option V)))
        → words ≡ (k.turn + 1) % 2 ^ 64 ∷ k.drawn % 2 ^ 64 ∷ [] → homes ≡ some (Some value) ∷ []
        → Rule record { words = words; homes = homes; views = set s.views id after }
    ended-keeps value story words homes are back = record {
      turn = k.turn + 1;
      drawn = k.drawn;
      log = k.log ++ added;
      few = k.few;
      words = are;
      numbers = numbers-stay seats s.views id v after at (length-gained maker added v.mine) (λ n. times-gained maker n added v.mine) k.numbers;
      tickets_out = tickets-next;
      each = each-set (Fits maker (k.turn + 1) k.drawn (k.log ++ added)) s.views id after fits-next others-next;
      first = log-next 0 start k.first (k.numbers.known 0 (inl refl));
      others = (λ number above. log-next number [] (k.others number above) (k.numbers.known number (inr above)));
      slot = inl (
        value,
        back,
        subst (λ l. stands value (l ++ added)) mine_is.1 story,
        (let moved = total-set (λ (u : View E). one_if u.holds) s.views id v after at in let was : one_if v.holds ≡ 1 = ap one_if holds in let out = out-now.1 in omega arith),
      );
    }

  hand_or : V → List (ℕ × Option V) → V
  hand_or value [] = value
  hand_or value (x ∷ xs) = unwrap_or x.1 value

  pub ends : (more : V → List E) (id : ℕ) (me : Me (Option V) (View E)) (slots : ℕ) (value : V) → me.0.holds ≡ true
      → me.1 ≡ (0, Some value) ∷ [] → stands value (me.0.seen ++ more value)
      → CanGain maker (more value) me.0.mine
      → Allows Rule slots id me 0 (λ n. (n + 1) % 2 ^ 64) (Ends maker more (step slots 0 1 0 none) me)
  unfolding hand_or
  ends more id me slots value holds hand story gains s k deep at below = (
    ended_view maker (more value) me.0,
    gives,
    tt,
    ended-keeps (more value) id me.0 holds gains s k at value story _ _ (words-turn s.words _ _ (λ n. (n + 1) % 2 ^ 64) k.words ∙ ap (λ n. n ∷ k.drawn % 2 ^ 64 ∷ []) (mod-next k.turn))
        (ap (λ c. put_back s.homes c) hand ∙ ap (λ hs. slice_set hs 0 (some (Some value))) (out-now (more value) id me.0 holds gains s k at).0),
    (λ other given.
        let same : value ≡ other = ap (hand_or value) (sym hand ∙ given) in
        λ i. (ended_view maker (more (same i)) me.0, ap rest hand i)),
  )

  -- the same where the value was put into the slot just before
  pub ends-back : (more : V → List E) (id : ℕ) (before me : Me (Option V) (View E)) (slots : ℕ) (value : V)
      → me ≡ (before.0, (0, Some value) ∷ rest before.1) → before.0.holds ≡ true → before.1 ≡ (0, None) ∷ []
      → stands value (before.0.seen ++ more value) → CanGain maker (more value) before.0.mine
      → Allows Rule slots id me 0 (λ n. (n + 1) % 2 ^ 64) (Ends maker more (step slots 0 1 0 none) me)
  ends-back more id before me slots value is holds hand story gains =
      subst (λ (m : Me (Option V) (View E)). Allows Rule slots id m 0 (λ n. (n + 1) % 2 ^ 64) (Ends maker more (step slots 0 1 0 none) m)) (sym is)
      (ends more id (before.0, (0, Some value) ∷ rest before.1) slots value holds (ap (λ l. (0, Some value) ∷ rest l) hand) story gains)

  total-last : (f : View E → ℕ) (views : List (View E)) (w : View E) → total f (views ++ w ∷ []) ≡ total f views + f w
  total-last f views w = let sum = total-append f views (w ∷ []) in omega arith

  -- a seat outside of a turn gives its first numbers to a new one
  pub cuts : (count id : ℕ) (v : View E) → v.ticket ≡ None → v.holds ≡ false
      → Splits Rule id v (rest_view count v) (dealt_view count v)
  cuts count id v without free s k at =
      let l = rest_view count v in
      let r = dealt_view count v in
      let fits = k.each id v at in
      let cut = ap length (take-append-drop count v.mine) in
      let lengths = length-append (take count v.mine) (drop count v.mine) in record {
        turn = k.turn;
        drawn = k.drawn;
        log = k.log;
        few = k.few;
        words = k.words;
        numbers = record {
          count = (let moved = total-set (λ (u : View E). length u.mine) s.views id v l at in let last = total-last (λ (u : View E). length u.mine) (set s.views id l) r in let was = k.numbers.count in omega arith);
          single = (λ n. let moved = total-set (λ (u : View E). times n u.mine) s.views id v l at in let last = total-last (λ (u : View E). times n u.mine) (set s.views id l) r in
              let parts = total-cut (λ (m : ℕ × List E). one_if (m.0 == n)) count v.mine in let was = k.numbers.single n in omega arith);
          known = (λ n out. let moved = total-set (λ (u : View E). times n u.mine) s.views id v l at in let last = total-last (λ (u : View E). times n u.mine) (set s.views id l) r in
              let parts = total-cut (λ (m : ℕ × List E). one_if (m.0 == n)) count v.mine in let was = k.numbers.known n out in omega arith);
        };
        tickets_out = record {
          out = (let moved = total-set (λ (u : View E). tickets u.ticket) s.views id v l at in let last = total-last (λ (u : View E). tickets u.ticket) (set s.views id l) r in let was = k.tickets_out.out in omega arith);
          apart = (λ t. let moved = total-set (λ (u : View E). tickets_at t u.ticket) s.views id v l at in let last = total-last (λ (u : View E). tickets_at t u.ticket) (set s.views id l) r in let was = k.tickets_out.apart t in omega arith);
        };
        each = each-snoc (Fits maker k.turn k.drawn k.log) (set s.views id l) r
            record {
              ticket = tt;
              few = (omega arith);
              seen = fits.seen;
              beside = prefix-none k.log;
              own = owns-take maker k.log count v.mine fits.own;
              holder = (λ held. absurd (true≢false (sym held)));
            }
            (each-set (Fits maker k.turn k.drawn k.log) s.views id l
            record {
              ticket = fits.ticket;
              few = (let nothing : tickets v.ticket ≡ 0 = ap tickets without in omega arith);
              seen = fits.seen;
              beside = fits.beside;
              own = owns-drop maker k.log count v.mine fits.own;
              holder = fits.holder;
            }
            (λ j u other e. k.each j u e));
        first = k.first;
        others = k.others;
        slot = slot-stays maker stands start seats k.log s s.words (set s.views id l ++ r ∷ [])
            (let moved = total-set (λ (u : View E). one_if u.holds) s.views id v l at in let last = total-last (λ (u : View E). one_if u.holds) (set s.views id l) r in omega arith)
            k.slot;
      }

  -- a seat takes in another that is outside of a turn
  pub joins : (id : ℕ) (v : View E) (other : ℕ) (w : View E) → w.ticket ≡ None → w.holds ≡ false
      → Joins Rule id v other w (joint_view v w) empty_view
  joins id v other w without free s k at differs there =
      let both = joint_view v w in
      let middle = set s.views id both in
      let fits = k.each id v at in
      let was_there : get_elem? s.views other ≡ some w = ⊎_elim (λ (t : (other ≡ id) × (both ≡ w)). absurd (differs t.0)) (λ (t : (other ≢ id) × (get_elem? s.views other ≡ some w)). t.1) (at_set s.views id other both w there) in
      let theirs = k.each other w was_there in
      let lengths = length-append v.mine w.mine in record {
        turn = k.turn;
        drawn = k.drawn;
        log = k.log;
        few = k.few;
        words = k.words;
        numbers = record {
          count = (let one = total-set (λ (u : View E). length u.mine) s.views id v both at in let two = total-set (λ (u : View E). length u.mine) middle other w empty_view there in let was = k.numbers.count in omega arith);
          single = (λ n. let one = total-set (λ (u : View E). times n u.mine) s.views id v both at in let two = total-set (λ (u : View E). times n u.mine) middle other w empty_view there in
              let parts = total-append (λ (m : ℕ × List E). one_if (m.0 == n)) v.mine w.mine in let was = k.numbers.single n in omega arith);
          known = (λ n out. let one = total-set (λ (u : View E). times n u.mine) s.views id v both at in let two = total-set (λ (u : View E). times n u.mine) middle other w empty_view there in
              let parts = total-append (λ (m : ℕ × List E). one_if (m.0 == n)) v.mine w.mine in let was = k.numbers.known n out in omega arith);
        };
        tickets_out = record {
          out = (let one = total-set (λ (u : View E). tickets u.ticket) s.views id v both at in let two = total-set (λ (u : View E). tickets u.ticket) middle other w empty_view there in
              let none_there : tickets w.ticket ≡ 0 = ap tickets without in let was = k.tickets_out.out in omega arith);
          apart = (λ t. let one = total-set (λ (u : View E). tickets_at t u.ticket) s.views id v both at in let two = total-set (λ (u : View E). tickets_at t u.ticket) middle other w empty_view there in
              let none_there : tickets_at t w.ticket ≡ 0 = ap (tickets_at t) without in let was = k.tickets_out.apart t in omega arith);
        };
        each = each-set (Fits maker k.turn k.drawn k.log) middle other empty_view
            record {
              ticket = tt;
              few = (omega arith);
              seen = prefix-none k.log;
              beside = prefix-none k.log;
              own = tt;
              holder = (λ held. absurd (true≢false (sym held)));
            }
            (λ j u apart_from e. each-set (Fits maker k.turn k.drawn k.log) s.views id both
            record {
              ticket = fits.ticket;
              few = (let few = fits.few in omega arith);
              seen = fits.seen;
              beside = theirs.seen;
              own = owns-append maker k.log v.mine w.mine fits.own theirs.own;
              holder = fits.holder;
            }
            (λ i x elsewhere d. k.each i x d) j u e);
        first = k.first;
        others = k.others;
        slot = slot-stays maker stands start seats k.log s s.words (set middle other empty_view)
            (let one = total-set (λ (u : View E). one_if u.holds) s.views id v both at in let two = total-set (λ (u : View E). one_if u.holds) middle other w empty_view there in
            let none_there : one_if w.holds ≡ 0 = ap one_if free in omega arith)
            k.slot;
      }

  -- a new seat that knows and has nothing
  pub comes : (first : View E) (slots : ℕ)
      → Arrivals Rule slots 0 (λ found after. Comes {V = V} (step slots 0 0 0 none) (first, []) found (after, []))
  comes first slots s k deep below = (
    empty_view,
    record {
      turn = k.turn;
      drawn = k.drawn;
      log = k.log;
      few = k.few;
      words = k.words;
      numbers = record {
        count = (let last = total-last (λ (u : View E). length u.mine) s.views empty_view in let was = k.numbers.count in omega arith);
        single = (λ n. let last = total-last (λ (u : View E). times n u.mine) s.views empty_view in let was = k.numbers.single n in omega arith);
        known = (λ n out. let last = total-last (λ (u : View E). times n u.mine) s.views empty_view in let was = k.numbers.known n out in omega arith);
      };
      tickets_out = record {
        out = (let last = total-last (λ (u : View E). tickets u.ticket) s.views empty_view in let was = k.tickets_out.out in omega arith);
        apart = (λ t. let last = total-last (λ (u : View E). tickets_at t u.ticket) s.views empty_view in let was = k.tickets_out.apart t in omega arith);
      };
      each = each-snoc (Fits maker k.turn k.drawn k.log) s.views empty_view
          record {
            ticket = tt;
            few = (omega arith);
            seen = prefix-none k.log;
            beside = prefix-none k.log;
            own = tt;
            holder = (λ held. absurd (true≢false (sym held)));
          }
          k.each;
      first = k.first;
      others = k.others;
      slot = slot-stays maker stands start seats k.log s s.words (s.views ++ empty_view ∷ []) (let last = total-last (λ (u : View E). one_if u.holds) s.views empty_view in omega arith) k.slot;
    },
    refl,
  )

  -- the table of a new lock
  pub opens : (value : V) → HasNoMaker maker start → stands value start → seats < 2 ^ 64
      → Rule (opening (0 ∷ 0 ∷ []) (Some value ∷ []) (first_view start seats))
  opens value nobody story few = record {
    turn = 0;
    drawn = 0;
    log = start;
    few = few;
    words = refl;
    numbers = record {
      count = (let len = length-numbers E 0 seats in omega arith);
      single = (λ n. let one = times-single E n 0 seats in omega arith);
      known = (λ n out. let none_there = ⊎_elim (λ low. times-below E n 0 seats (omega arith)) (λ high. times-above E n 0 seats (omega arith)) out in omega arith);
    };
    tickets_out = record { out = refl; apart = (λ t. omega arith) };
    each = (λ j v e. only j v e);
    first = made-by-nobody maker start nobody;
    others = (λ number above. made-by-none maker number start (omega arith) nobody);
    slot = inl (value, refl, story, refl);
  }
    where
      only : (j : ℕ) (v : View E) → get_elem? (first_view start seats ∷ []) j ≡ some v → Fits maker 0 0 start v
      only zero v e = subst (Fits maker 0 0 start) (some-injective (first_view start seats) v e)
          record {
            ticket = tt;
            few = (omega arith);
            seen = prefix-self start;
            beside = prefix-none start;
            own = owns-numbers maker start 0 seats nobody;
            holder = (λ held. absurd (true≢false (sym held)));
          }
      only (suc j) v e = absurd (some-ne-none v (sym e))

  -- what is left where a seat with all numbers ends the table
  pub shuts : (s : Board) (k : Rule s) (id : ℕ) (v : View E) → get_elem? s.views id ≡ some v → v.holds ≡ false
      → length v.mine ≡ seats
      → (xs : List (Option V))
      → ((j : ℕ) (y : Option V) → get_elem? s.homes j ≡ some (some y) → get_elem? xs j ≡ some y) → (found : Option V)
      → get_elem? xs 0 ≡ some found
      → (value : V) × (found ≡ Some value) × IsShut maker stands start seats v value
  shuts s k id v at free all xs deep found e =
      let home = closing maker stands start seats s k id v at free all in
      let fits = k.each id v at in (
        home.0,
        some-injective found (Some home.0) (sym e ∙ deep 0 (Some home.0) (ap (λ hs. get_elem? hs 0) home.1)),
        record { log = k.log; stands_for = home.2; seen = fits.seen; own = fits.own; first = k.first; others = k.others },
      )

-- the same, with the value as the key of the table shows it
pub opens-at : {E V : Type 0} (maker : E → ℕ) (stands : V → List E → Type 0) (first : V → List E) (seats : ℕ)
    (value shown : V) (slots : List (Option V)) → shown ≡ value → slots ≡ Some value ∷ []
    → HasNoMaker maker (first value) → stands value (first value) → seats < 2 ^ 64
    → Kept maker stands (first shown) seats (opening (0 ∷ 0 ∷ []) slots (first_view (first shown) seats))
opens-at maker stands first seats value shown slots same are nobody story few =
    subst (λ xs. Kept maker stands (first shown) seats (opening (0 ∷ 0 ∷ []) xs (first_view (first shown) seats))) (sym are)
    (subst (λ v. Kept maker stands (first v) seats (opening (0 ∷ 0 ∷ []) (Some value ∷ []) (first_view (first v) seats))) (sym same) (opens maker stands (first value) seats value nobody story few))

-- the same for the value that was found
pub shuts-as : {E V : Type 0} (maker : E → ℕ) (stands : V → List E → Type 0) (start : List E) (seats : ℕ) (v : View E)
    (found : Option V) (value : V) → found ≡ Some value
    → (other : V) × (found ≡ Some other) × IsShut maker stands start seats v other
    → IsShut maker stands start seats v value
shuts-as maker stands start seats v found value is shut =
    subst (IsShut maker stands start seats v) (ap (λ o. unwrap_or o value) (sym shut.1 ∙ is)) shut.2
