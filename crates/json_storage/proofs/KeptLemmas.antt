-- A key fits into a value at some parts where what the value keeps has a text there.
use Rattle.std.specs.Prelude.{◌≡◌, ◌⊎◌, ℕ, ◌+◌, ◌||◌, Bool, true, false, not, List, [], ◌∷◌, None, unwrap_or}
use Rattle.std.proofs.Common.{refl, sym, ap, subst, cond, inl, inr}
use Rattle.std.specs.Bool.{Decides}
use Rattle.std.proofs.lemmas.Bool.{cond-true}
use Rattle.general_words.specs.Texts.{is_text}
use Rattle.general_words.proofs.Deciding.{decided_both}
use Rattle.general_words.proofs.Texts.{is_text-Decides}
use Rattle.model_names.specs.ArrayPart.{is_array_like, array_part}
use Rattle.model_names.specs.Name.{Part}
use Rattle.serde_json.specs.Data.{Data, null, boolean, number, string, array, object, Members, no_members, member}
use Rattle.serde_json.specs.Find.{get}
use Rattle.model_json.specs.Tree.{empty, AreNames, AreItems, AreOfOneKind, IsText, child, Fits}
use Rattle.model_json.proofs.TreeReads.{nothing-fits}
use Rattle.json_storage.specs.Kept.{are_names, are_items, are_of_one_kind, kept, kept_members, HasText}
use Rattle.json_storage.proofs.EachMember.{IsEach, child-each}

-- ---- names side by side

not-decides : (b : Bool) → Decides (not b) (b ≡ false)
not-decides true = (λ e. absurd cc, λ e. absurd cc)
not-decides false = (λ e. refl, λ e. refl)

either-decides : {P Q : Type 0} (a b : Bool) → Decides a P → Decides b Q → Decides (a || b) (P ⊎ Q)
either-decides true b p q = (λ e. inl (p.0 refl), λ h. refl)
either-decides false b p q =
    (λ e. inr (q.0 e), λ h. elim h [ inl here ↦ absurd (let clash = p.1 here in cc) | inr there ↦ q.1 there ])

names-decides : (ms : Members) → Decides (are_names ms) (AreNames ms)
names-decides no_members = (λ e. tt, λ h. refl)
names-decides (member name d ms) =
    decided_both (not (is_array_like name)) (are_names ms) (not-decides (is_array_like name)) (names-decides ms)

items-decides : (index : ℕ) (ms : Members) → Decides (are_items index ms) (AreItems index ms)
items-decides index no_members = (λ e. tt, λ h. refl)
items-decides index (member name d ms) =
    decided_both (is_text name (array_part index)) (are_items (index + 1) ms) (is_text-Decides name (array_part index)) (items-decides (index + 1) ms)

kind-decides : (ms : Members) → Decides (are_of_one_kind ms) (AreOfOneKind ms)
kind-decides ms = either-decides (are_names ms) (are_items 0 ms) (names-decides ms) (items-decides 0 ms)

-- ---- texts

pub kept-each : IsEach kept kept_members
kept-each = record { none = refl; more = λ name d ms. refl }

pub nothing-has : (parts : List Part) → HasText parts empty → ⊥
nothing-has [] h = h
nothing-has (part ∷ parts) h = nothing-has parts h

kept-child : (part : Part) (ms : Members) → child part (object (kept_members ms)) ≡ kept (child part (object ms))
kept-child part ms = child-each kept kept_members kept-each refl part ms

pub kept-fits : (parts : List Part) (d : Data) → Fits parts d → HasText parts (kept d)
kept-fits [] null h = h
kept-fits [] (boolean b) h = absurd h
kept-fits [] (number n) h = absurd h
kept-fits [] (string text) h = tt
kept-fits [] (array ds) h = absurd h
kept-fits [] (object ms) h = absurd h
kept-fits (part ∷ parts) null h = absurd (nothing-fits parts h.1)
kept-fits (part ∷ parts) (boolean b) h = absurd (nothing-fits parts h.1)
kept-fits (part ∷ parts) (number n) h = absurd (nothing-fits parts h.1)
kept-fits (part ∷ parts) (string text) h = absurd (nothing-fits parts h.1)
kept-fits (part ∷ parts) (array ds) h = absurd (nothing-fits parts h.1)
kept-fits (part ∷ parts) (object ms) h =
    subst (HasText (part ∷ parts)) (sym (cond-true (are_of_one_kind ms) (object (kept_members ms)) null ((kind-decides ms).1 h.0)))
    (subst (HasText parts) (sym (kept-child part ms)) (kept-fits parts (child part (object ms)) h.1))

no-text-either : (b : Bool) (ms : Members) → IsText (cond b (object ms) null) → ⊥
no-text-either true ms h = h
no-text-either false ms h = h

-- an object that keeps something has names of one kind
keeps : (part : Part) (parts : List Part) (b : Bool) (ms : Members) → HasText (part ∷ parts) (cond b (object ms) null)
    → (b ≡ true) × HasText parts (child part (object ms))
keeps part parts true ms h = (refl, h)
keeps part parts false ms h = absurd (nothing-has parts h)

pub fits-kept : (parts : List Part) (d : Data) → HasText parts (kept d) → Fits parts d
fits-kept [] null h = h
fits-kept [] (boolean b) h = h
fits-kept [] (number n) h = h
fits-kept [] (string text) h = h
fits-kept [] (array ds) h = h
fits-kept [] (object ms) h = no-text-either (are_of_one_kind ms) (kept_members ms) h
fits-kept (part ∷ parts) null h = absurd (nothing-has parts h)
fits-kept (part ∷ parts) (boolean b) h = absurd (nothing-has parts h)
fits-kept (part ∷ parts) (number n) h = absurd (nothing-has parts h)
fits-kept (part ∷ parts) (string text) h = absurd (nothing-has parts h)
fits-kept (part ∷ parts) (array ds) h = absurd (nothing-has parts h)
fits-kept (part ∷ parts) (object ms) h =
    let both = keeps part parts (are_of_one_kind ms) (kept_members ms) h in
    ((kind-decides ms).0 both.0, fits-kept parts (child part (object ms)) (subst (HasText parts) (kept-child part ms) both.1))

pub absent-text : (part : Part) (parts : List Part) (d : Data) → None ≡ get part d → HasText (part ∷ parts) d → ⊥
absent-text part parts d none h = nothing-has parts (subst (HasText parts) (ap (λ r. unwrap_or r empty) (sym none)) h)
