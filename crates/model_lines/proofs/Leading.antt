-- Lines lead to one end at most, and either lead through or stop at one line.
use Rattle.std.specs.Prelude.{◌≡◌, ◌⊎◌, ℕ, ◌+◌, List, [], ◌∷◌, ◌++◌, length}
use Rattle.std.proofs.Common.{suc, refl, sym, ap, subst, ◌∙◌, inl, inr}
use Rattle.std.specs.List.{AllByRecursion}
use Rattle.model_lines.specs.Reading.{Leads, StopsAt}

-- a line leads to one end at most
abbrev pub IsFunctional : {S : Type 0} → (S → List ℕ → S → Type 0) → Type 0
IsFunctional {S} Step = (before : S) (line : List ℕ) (a b : S) → Step before line a → Step before line b → a ≡ b

-- a line leads to an end, or to none
abbrev pub IsDecided : {S : Type 0} → (S → List ℕ → S → Type 0) → Type 0
IsDecided {S} Step =
    (before : S) (line : List ℕ) → ((after : S) × Step before line after) ⊎ ((after : S) → Step before line after → ⊥)

module _ {S : Type 0} (Step : S → List ℕ → S → Type 0) where
  pub Leads-append : (rs ss : List (List ℕ)) (before middle after : S) → Leads Step before rs middle
      → Leads Step middle ss after → Leads Step before (rs ++ ss) after
  Leads-append [] ss before middle after p q = subst (λ b. Leads Step b ss after) (sym p) q
  Leads-append (line ∷ rs) ss before middle after p q = (p.0, p.1, Leads-append rs ss p.0 middle after p.2 q)

  -- what each line keeps, lines keep
  pub Leads-kept : (Good : S → Type 0) (Fine : List ℕ → Type 0)
      → ((before : S) (line : List ℕ) (after : S) → Fine line → Good before → Step before line after → Good after)
      → (all : List (List ℕ)) (before after : S) → AllByRecursion Fine all → Good before → Leads Step before all after
      → Good after
  Leads-kept Good Fine keeps [] before after fine good leads = subst Good leads good
  Leads-kept Good Fine keeps (line ∷ all) before after fine good leads =
      Leads-kept Good Fine keeps all leads.0 after fine.1 (keeps before line leads.0 fine.0 good leads.1) leads.2

  pub Leads-once : IsFunctional Step → (all : List (List ℕ)) (before a b : S) → Leads Step before all a
      → Leads Step before all b → a ≡ b
  Leads-once once [] before a b p q = sym p ∙ q
  Leads-once once (line ∷ all) before a b p q =
      Leads-once once all p.0 a b p.2 (subst (λ m. Leads Step m all b) (once before line q.0 p.0 q.1 p.1) q.2)

  -- a front of lines that lead through leads too, and the next line has a reading behind it
  Leads-front : (front : List (List ℕ)) (line : List ℕ) (behind : List (List ℕ)) (before after : S)
      → Leads Step before (front ++ line ∷ behind) after
      → (middle : S) × Leads Step before front middle × ((next : S) × Step middle line next)
  Leads-front [] line behind before after leads = (before, refl, (leads.0, leads.1))
  Leads-front (l ∷ front) line behind before after leads =
      let rest = Leads-front front line behind leads.0 after leads.2 in (rest.0, (leads.0, leads.1, rest.1), rest.2)

  -- what leads through stops nowhere
  pub Leads-stops_nowhere : IsFunctional Step → (start : S) (all : List (List ℕ)) (after : S) (number : ℕ)
      → Leads Step start all after → StopsAt Step start all number → ⊥
  Leads-stops_nowhere once start all after number leads stops =
      let at = Leads-front stops.front stops.line stops.behind start after (subst (λ ls. Leads Step start ls after) stops.whole leads) in
      let same = Leads-once once stops.front start at.0 stops.progress at.1 stops.leads in
      stops.has_none at.2.0 (subst (λ m. Step m stops.line at.2.0) same at.2.1)

  heads : (x y : List ℕ) (xs ys : List (List ℕ)) → x ∷ xs ≡ y ∷ ys → (x ≡ y) × (xs ≡ ys)
  heads x y xs ys e = (cc, cc)

  -- two fronts behind which a line has no reading are one
  fronts : IsFunctional Step → (f g : List (List ℕ)) (l k : List ℕ) (ls ks : List (List ℕ)) (start p q : S)
      → f ++ l ∷ ls ≡ g ++ k ∷ ks → Leads Step start f p → Leads Step start g q
      → ((after : S) → Step p l after → ⊥) → ((after : S) → Step q k after → ⊥) → length f ≡ length g
  fronts once [] [] l k ls ks start p q same to_p to_q no_p no_q = refl
  fronts once [] (x ∷ g) l k ls ks start p q same to_p to_q no_p no_q =
      let line = (heads l x ls (g ++ k ∷ ks) same).0 in
      absurd (no_p to_q.0 (subst (λ s. Step s l to_q.0) to_p (subst (λ t. Step start t to_q.0) (sym line) to_q.1)))
  fronts once (x ∷ f) [] l k ls ks start p q same to_p to_q no_p no_q =
      let line = (heads x k (f ++ l ∷ ls) ks same).0 in
      absurd (no_q to_p.0 (subst (λ s. Step s k to_p.0) to_q (subst (λ t. Step start t to_p.0) line to_p.1)))
  fronts once (x ∷ f) (y ∷ g) l k ls ks start p q same to_p to_q no_p no_q =
      let parts = heads x y (f ++ l ∷ ls) (g ++ k ∷ ks) same in
      let middle = once start x to_q.0 to_p.0 (subst (λ t. Step start t to_q.0) (sym parts.0) to_q.1) to_p.1 in
      ap suc (fronts once f g l k ls ks to_p.0 p q parts.1 to_p.2 (subst (λ s. Leads Step s g q) middle to_q.2) no_p no_q)

  -- lines stop at one line at most
  pub StopsAt-once : IsFunctional Step → (start : S) (all : List (List ℕ)) (number other : ℕ)
      → StopsAt Step start all number → StopsAt Step start all other → number ≡ other
  StopsAt-once once start all number other p q =
      let same = fronts once p.front q.front p.line q.line p.behind q.behind start p.progress q.progress (sym p.whole ∙ q.whole) p.leads q.leads p.has_none q.has_none in
      p.number_is ∙ ap (λ n. n + 1) same ∙ sym q.number_is

  -- lines lead through or stop
  pub Leads-or_stops : IsDecided Step → (all : List (List ℕ)) (start : S)
      → ((after : S) × Leads Step start all after) ⊎ ((number : ℕ) × StopsAt Step start all number)
  Leads-or_stops decided [] start = inl (start, refl)
  Leads-or_stops decided (line ∷ all) start =
      elim (decided start line) [
        | inl step ↦ elim (Leads-or_stops decided all step.0) [
          | inl leads ↦ inl (leads.0, (step.0, step.1, leads.1))
          | inr stops ↦ inr (
            length (line ∷ stops.1.front) + 1,
            record {
              front = line ∷ stops.1.front;
              progress = stops.1.progress;
              line = stops.1.line;
              behind = stops.1.behind;
              whole = ap (λ ls. line ∷ ls) stops.1.whole;
              leads = (step.0, step.1, stops.1.leads);
              has_none = stops.1.has_none;
              number_is = refl;
            },
          )
        ]
        | inr none ↦ inr (
          1,
          record {
            front = [];
            progress = start;
            line = line;
            behind = all;
            whole = refl;
            leads = refl;
            has_none = none;
            number_is = refl;
          },
        )
      ]
