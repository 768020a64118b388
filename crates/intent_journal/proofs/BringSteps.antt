-- How far the texts of a list have gone into their files.
use Rattle.std.proofs.Common.{◌≡◌, ◌≢◌, ◌⊎◌, inl, inr, ℕ, ◌+◌, ◌-◌, ◌<◌, ◌≤◌, List, [], ◌∷◌, ◌++◌, length, take, drop, Bool, true, false, cond, Option, Some, None, Result, Ok, Err, OnOk, slice_index_or, bytes_eq, refl, sym, ap, ◌∙◌, subst, arith}
use Rattle.std.specs.Prelude.{is_some, ◌||◌}
use Rattle.std.specs.Result.{IsErr}
use Rattle.std.specs.List.{list_any}
use Rattle.std.proofs.lemmas.Result.{on_ok_weaker}
use Rattle.std.proofs.lemmas.Option.{none-some}
use Rattle.std.proofs.lemmas.List.{take_all, get_or-take, get_or_default, length-take, take-append-drop}
use Rattle.std.proofs.lemmas.Slice.Eq.{bytes_eq-Decides}
use Rattle.general_words.proofs.Lists.{at_place, take-next}
use Rattle.kdb_outside.specs.declared.disks.Disk.{Ghosts}
use Rattle.kdb_outside.specs.declared.faults.Failed.{Failed}
use Rattle.journal_codec.specs.declared.files.FileText.{FileText}
use Rattle.journal_codec.specs.Entry.{IsEntry}
use Rattle.journal_steps.specs.Moments.{KeepsUnnamed}
use Rattle.journal_steps.specs.Outcomes.{content_in}
use Rattle.journal_steps.proofs.Contents.{cond_some, names_differ, none_from_apart}
use Rattle.journal_steps.proofs.Meanwhile.{else_both, else_weaker}
use Rattle.intent_journal.specs.Bringing.{IsPassed, Brings}
use Rattle.journal_lists.specs.Lists.{as_one}
use Rattle.intent_journal.specs.States.{HasBrought}
use Rattle.intent_journal.proofs.Contents.{content_cases, content_in-first, content_in-second, cut_none}

named_there : (texts : List FileText) (file bytes : List ℕ) → content_in texts file ≡ Some bytes
    → content_in texts file ≢ None
named_there texts file bytes is none = none-some bytes (sym none ∙ is)

-- what texts and others behind them have
pub cut_named : (texts others : List FileText) (file bytes : List ℕ) → content_in (texts ++ others) file ≡ Some bytes
    → (content_in texts file ≡ Some bytes) ⊎ ((content_in texts file ≡ None) × (content_in others file ≡ Some bytes))
cut_named texts others file bytes is = elim (content_cases texts file) [
  | inl none ↦ inr (none, sym (content_in-second texts others file none) ∙ is)
  | inr some ↦ inl (some.1 ∙ sym (content_in-first texts others file some.0 some.1) ∙ is)
]

-- a text alone
alone : (text : FileText) (file bytes : List ℕ) → content_in (text ∷ []) file ≡ Some bytes
    → (text.file ≡ file) × (text.bytes ≡ bytes)
alone text file bytes is = elim (cond_some (bytes_eq text.file file) text.bytes bytes None is) [
  | inl here ↦ ((bytes_eq-Decides text.file file).0 here.0, here.1)
  | inr there ↦ absurd (none-some bytes there.1)
]

-- a text of an entry isn't named by those before it
new_name : (entry : List FileText) (i : ℕ) (text : FileText) → IsEntry entry → i < length entry
    → text ≡ slice_index_or entry i text → content_in (take i entry) text.file ≡ None
new_name entry i text is within here =
    none_from_apart (take i entry) text.file (λ j d lt same.
    let before : j < i = omega (arith, length-take i entry) in
    names_differ entry is j i d before within
    (sym (ap (λ (f : FileText). f.file) (get_or-take i entry j d before)) ∙ sym same ∙ ap (λ (f : FileText). f.file) (here ∙ get_or_default entry i text d within)))

-- whether a file is named
named_by : (b : Bool) (x : List ℕ) (o : Option (List ℕ)) (others : Bool) → others ≡ is_some o
    → (b || others) ≡ is_some (cond b (Some x) o)
named_by true x o others is = refl
named_by false x o others is = is

pub any-names : (texts : List FileText) (file : List ℕ)
    → list_any (λ (text : FileText). bytes_eq text.file file) texts ≡ is_some (content_in texts file)
any-names [] file = refl
any-names (text ∷ texts) file =
    named_by (bytes_eq text.file file) text.bytes (content_in texts file) (list_any (λ (t : FileText). bytes_eq t.file file) texts) (any-names texts file)

or_false : (b : Bool) → (b || false) ≡ b
or_false true = refl
or_false false = refl

or_true : (b : Bool) → (b || true) ≡ true
or_true true = refl
or_true false = refl

pub any-list_names : (entries : List (List FileText)) (file : List ℕ)
    → list_any (λ (entry : List FileText). is_some (content_in entry file)) entries
    ≡ is_some (content_in (as_one entries) file)
any-list_names [] file = refl
any-list_names (entry ∷ entries) file =
    let named = is_some (content_in entry file) in
    let before = any-list_names entries file in
    elim (content_cases (as_one entries) file) [
      | inl none ↦ ap (λ (b : Bool). named || b) (before ∙ ap is_some none) ∙ or_false named ∙ sym (ap is_some (content_in-second (as_one entries) entry file none))
      | inr some ↦ ap (λ (b : Bool). named || b) (before ∙ ap is_some some.1) ∙ or_true named ∙ sym (ap is_some (content_in-first (as_one entries) entry file some.0 some.1))
    ]

-- what failed in a front of the texts, failed in all of them
pub brings_front : {D : Type 0} (g : Ghosts D) (old new : D) (r other : Result Unit Failed)
    (front back later : List FileText) → IsErr other → Brings g old new r front later
    → Brings g old new other (front ++ back) later
brings_front g old new r (Ok x) front back later failed so_far = absurd (cc)
brings_front g old new r (Err e) front back later failed so_far = record {
  durable = tt;
  kept = λ other is. so_far.kept other (by other is);
  seen = λ other is. so_far.seen other (by other is);
  time = else_weaker _ _ _ _ (KeepsUnnamed (front ++ back) (g.may_leave old)) so_far.time (λ image kept other none. kept other (cut_none front back other none).0);
}
  where
    by : (other : List ℕ) → IsPassed (front ++ back) later other → IsPassed front later other
    by other (inl none) = inl (cut_none front back other none).0
    by other (inr named) = inr named

-- texts that went in behind others, and left theirs alone
module _ {D : Type 0} (g : Ghosts D) (old mid new : D) (r : Result Unit Failed) (first second later last : List FileText)
    (apart : (file bytes : List ℕ) → content_in first file ≡ Some bytes → content_in later file ≡ None → IsPassed second last file)
    (free : (file : List ℕ) → content_in first file ≡ None → content_in later file ≡ None → content_in last file ≡ None)
    (passed : (file : List ℕ) → content_in later file ≢ None → IsPassed second last file) where
  both_passed : (other : List ℕ) → IsPassed (first ++ second) later other
      → IsPassed first later other × IsPassed second last other
  both_passed other (inl none) = let parts = cut_none first second other none in (inl parts.0, inl parts.1)
  both_passed other (inr named) = (inr named, passed other named)

  pub brings_then : Brings g old mid (Ok tt) first later → g.moment old ≤ g.moment mid → Brings g mid new r second last
      → Brings g old new r (first ++ second) later
  brings_then so_far time next = record {
    durable = on_ok_weaker r (λ brought file bytes is none c left. elim (cut_named first second file bytes is) [
      | inl before ↦ so_far.durable file bytes before none c ((next.kept file (apart file bytes before none)).no_more c left)
      | inr behind ↦ brought file bytes behind.1 (free file behind.0 none) c left
    ]) next.durable;
    kept = λ other is.
        let is_passed = both_passed other is in
        let one = so_far.kept other is_passed.0 in
        let two = next.kept other is_passed.1 in
        record { no_more = λ c left. one.no_more c (two.no_more c left); no_fewer = λ c left. two.no_fewer c (one.no_fewer c left) };
    seen = λ other is. let is_passed = both_passed other is in next.seen other is_passed.1 ∙ so_far.seen other is_passed.0;
    time = else_both _ _ _ _ _ (KeepsUnnamed (first ++ second) (g.may_leave old))
        (else_weaker _ _ _ _ (KeepsUnnamed (first ++ second) (g.may_leave old)) so_far.time (λ image kept other none. kept other (cut_none first second other none).0)) time
        (else_weaker _ _ _ _ (KeepsUnnamed (first ++ second) (g.may_leave old)) next.time (λ image kept other none.
        let parts = cut_none first second other none in
        (so_far.kept other (inl parts.0)).no_more (image other) (kept other parts.1)));
  }

-- one more text of an entry went in
module _ {D : Type 0} (g : Ghosts D) (old mid new : D) (r : Result Unit Failed) (entry later : List FileText) (i : ℕ) (text : FileText)
    (is : IsEntry entry) (within : i < length entry) (here : text ≡ slice_index_or entry i text) where
  pub brings_more : Brings g old mid (Ok tt) (take i entry) later → g.moment old ≤ g.moment mid
      → Brings g mid new r (text ∷ []) later → Brings g old new r (take (i + 1) entry) later
  brings_more so_far time next =
      subst (λ (texts : List FileText). Brings g old new r texts later) (sym (take-next entry i text (at_place entry i text within here)))
      (brings_then g old mid new r (take i entry) (text ∷ []) later later
      (λ file bytes before none. inl (not_it file bytes before (content_cases (text ∷ []) file)))
      (λ file unnamed none. none) (λ file named. inr named) so_far time next)
    where
      not_it : (file bytes : List ℕ) → content_in (take i entry) file ≡ Some bytes
          → (content_in (text ∷ []) file ≡ None) ⊎ ((b : List ℕ) × (content_in (text ∷ []) file ≡ Some b))
          → content_in (text ∷ []) file ≡ None
      not_it file bytes before (inl none) = none
      not_it file bytes before (inr some) =
          absurd (none-some bytes (sym (subst (λ (f : List ℕ). content_in (take i entry) f ≡ None) (alone text file some.0 some.1).0 (new_name entry i text is within here)) ∙ before))

  -- and where it failed, the entry did
  pub brings_failed : (other : Result Unit Failed) → IsErr other → Brings g old mid (Ok tt) (take i entry) later
      → g.moment old ≤ g.moment mid → Brings g mid new r (text ∷ []) later
      → Brings g old new other entry later
  brings_failed other failed so_far time next =
      subst (λ (texts : List FileText). Brings g old new other texts later) (take-append-drop (i + 1) entry)
      (brings_front g old new r other (take (i + 1) entry) (drop (i + 1) entry) later failed (brings_more so_far time next))

-- an entry went in behind those that come later
pub brings_entry : {D : Type 0} (g : Ghosts D) (old mid new : D) (r : Result Unit Failed) (entry later : List FileText)
    → Brings g old mid (Ok tt) later [] → g.moment old ≤ g.moment mid
    → Brings g mid new r entry later → Brings g old new r (later ++ entry) []
brings_entry g old mid new r entry later so_far time next =
    brings_then g old mid new r later entry [] later (λ file bytes named none. inr (named_there later file bytes named)) (λ file unnamed none. unnamed) (λ file named. absurd (named refl))
    so_far time next

-- a list with entries is its first one and the others
pub list_parts : (list : List (List FileText)) (entry : List FileText) → 1 ≤ length list
    → entry ≡ slice_index_or list 0 entry → list ≡ entry ∷ take (length list - 1) (drop 1 list)
list_parts [] entry some here = absurd (omega arith)
list_parts (first ∷ list) entry some here =
    ap (λ (e : List FileText). e ∷ list) (sym here)
    ∙ ap (λ (rest : List (List FileText)). entry ∷ rest) (sym (take_all (length (first ∷ list) - 1) list (omega arith)))

-- so each file that is named has its content
pub brought_first : {D : Type 0} (g : Ghosts D) (old new : D) (r : Result Unit Failed) (texts : List FileText)
    → Brings g old new r texts [] → OnOk r (HasBrought (g.may_leave new) texts)
brought_first g old new r texts brings =
    on_ok_weaker r (λ brought file bytes is. brought file bytes is refl) brings.durable
