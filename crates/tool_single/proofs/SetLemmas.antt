-- A set alone has one answer.
use Rattle.std.specs.Prelude.{◌≡◌, ℕ, nat_lt, Bool, true, false, cond, List, [], ◌∷◌, length, Option, Some, None, IsSomeAnd, slice_get, option_and_then, Result, Ok, Err}
use Rattle.std.specs.List.{AllByRecursion}
use Rattle.std.specs.Option.{option_map, option_or}
use Rattle.std.proofs.Common.{refl, sym, ap, ap₂, subst, ◌∙◌, inl, inr, ◌⊎◌}
use Rattle.std.proofs.lemmas.Option.{none-some, same_Some}
use Rattle.all_formats.specs.Laws as laws
use Rattle.general_words.specs.Saturated.{saturated}
use Rattle.general_words.specs.Searches.{first_some}
use Rattle.backend_files.specs.WholeFile.{longest_file}
use Rattle.model_maps.specs.KeyMap.{KeyMap, weight, heaviest_map}
use Rattle.model_names.specs.Name.{Name}
use Rattle.model_names.specs.Order.{name_eq}
use Rattle.model_store.specs.Fitting.{Early, NotFetched, ValueTooLong, TooHeavy, NotStorable, TooLong, BadTable, heavy_contents, long_text, too_heavy, too_long, bad_table, fault_of_table, IsStorableAt}
use Rattle.model_store.specs.Store.{Store, contents, points_of}
use Rattle.mounted_files.specs.Setting.{first_long_in}
use Rattle.model_store.specs.Records as model
use Rattle.model_store.specs.Sets.{Prepared, prepared}
use Rattle.model_store.specs.Verdicts.{Late, Same, Conflict, TooLarge, Invalid, DatabaseFull, HistoryFull, Commits, Follows, IsEarly, IsLate, BreaksFirst, before_formats, behind_formats, wanted_in, not_fetched, long_value, if_unseen}
use Rattle.model_store.proofs.OneVerdict.{IsEarly-once, IsEarly-some}
use Rattle.model_specified.proofs.Refusals.{RefusesEach}
use Rattle.model_specified.proofs.ViolationLemmas.{RefusesMore}
use Rattle.model_specified.proofs.ViolationsOnce.{RefusesNoPattern}
use Rattle.model_store.proofs.FirstSets.{never-unseen, never-blocked, never-large}
use Rattle.mount_table.specs.Points.{own_point}
use Rattle.mount_table.specs.Table.{table_of}
use Rattle.mount_table.specs.declared.faults.TableFault.{TableFault}
use Rattle.mount_table.specs.declared.mounts.Mount.{Mount}
use Rattle.mounted_files.specs.declared.files.MountedFile.{MountedFile}
use Rattle.store_verdict.specs.Preparing.{IsRefused, fault_of}
use Rattle.store_verdict.specs.RecordView.{handle_of, record_of}
use Rattle.store_verdict.specs.declared.records.Record.{Record}
use Rattle.store_verdict.specs.declared.faults.PrepareFault.{PrepareFault}
use Rattle.store_verdict.specs.declared.faults.PrepareFault.TheVariants as fault
use Rattle.store_lines.specs.Lines.{bad_table as bad_table_line, value_too_long, file_too_large, not_storable, invalid, database_full, history_full}
use Rattle.tool_single.specs.Answer.{Answer, done, stores, refused}
use Rattle.tool_single.specs.Serving.{HasFetched}
use Rattle.tool_single.specs.Alone.{store_alone, the_handle}
use Rattle.tool_single.specs.Sets.{AnswersSet, Refused, Judged, IsRefusal, IsJudgement, formats, set_alone, stored_by}
use Rattle.tool_single.proofs.VerdictsBy.{IsPermitted, told_alone, verdict-once, verdict-some}

-- ---- one answer

refusal_once : (why : PrepareFault) (a b : Answer) → IsRefusal why a → IsRefusal why b → a ≡ b
refusal_once (fault.NotFetched mount) a b p q = absurd p
refusal_once (fault.ValueTooLong key bytes) a b p q = p ∙ sym q
refusal_once (fault.FileTooLarge mount bytes) a b p q = p ∙ sym q
refusal_once (fault.NotStorable mount key) a b p q = p ∙ sym q
refusal_once (fault.BadTable why) a b p q = p ∙ sym q
refusal_once fault.Memory a b p q = absurd p

told_once : (o : Option PrepareFault) (a b : Answer) → IsSomeAnd o (λ why. IsRefusal why a)
    → IsSomeAnd o (λ why. IsRefusal why b) → a ≡ b
told_once None a b p q = absurd p
told_once (Some why) a b p q = refusal_once why a b p q

judgement_once : (MayRefuse : List ℕ → Type 0) (store : Store) (keys : KeyMap) (out : List ℕ) (late : Late)
    (a b : Answer) → IsJudgement MayRefuse store keys out late a → IsJudgement MayRefuse store keys out late b → a ≡ b
judgement_once MayRefuse store keys out (Same aside) a b p q = p ∙ sym q
judgement_once MayRefuse store keys out (Conflict mount by) a b p q = absurd p
judgement_once MayRefuse store keys out (TooLarge mount size) a b p q = absurd p
judgement_once MayRefuse store keys out (Invalid violation risen) a b p q = p.1 ∙ sym q.1
judgement_once MayRefuse store keys out (DatabaseFull weight) a b p q = p ∙ sym q
judgement_once MayRefuse store keys out (HistoryFull weight) a b p q = p ∙ sym q
judgement_once MayRefuse store keys out (Commits commit aside) a b p q = p ∙ sym q

-- the judgement on a verdict that may go by a refusal is one on what it tells alone, and tells only what may be refused
alone_judged : (MayRefuse : List ℕ → Type 0) (store : Store) (keys : KeyMap) (out : List ℕ) (late : Late) (a : Answer)
    → IsJudgement MayRefuse store keys out late a → IsJudgement MayRefuse store keys out (told_alone late) a
alone_judged MayRefuse store keys out (Same aside) a p = p
alone_judged MayRefuse store keys out (Conflict mount by) a p = p
alone_judged MayRefuse store keys out (TooLarge mount size) a p = p
alone_judged MayRefuse store keys out (Invalid violation risen) a p = ((λ none. absurd none), p.1)
alone_judged MayRefuse store keys out (DatabaseFull weight) a p = p
alone_judged MayRefuse store keys out (HistoryFull weight) a p = p
alone_judged MayRefuse store keys out (Commits commit aside) a p = p

permitted : (MayRefuse : List ℕ → Type 0) (store : Store) (keys : KeyMap) (out : List ℕ) (late : Late) (a : Answer)
    → IsJudgement MayRefuse store keys out late a → IsPermitted MayRefuse late
permitted MayRefuse store keys out (Same aside) a p = tt
permitted MayRefuse store keys out (Conflict mount by) a p = tt
permitted MayRefuse store keys out (TooLarge mount size) a p = tt
permitted MayRefuse store keys out (Invalid violation risen) a p = p.0
permitted MayRefuse store keys out (DatabaseFull weight) a p = tt
permitted MayRefuse store keys out (HistoryFull weight) a p = tt
permitted MayRefuse store keys out (Commits commit aside) a p = tt

pub Set-once : (MayRefuse : List ℕ → Type 0) → RefusesNoPattern MayRefuse
    → (files : List MountedFile) (parent : Name) (keys : KeyMap) (out : List ℕ) (a b : Answer)
    → AnswersSet MayRefuse files parent keys out a → AnswersSet MayRefuse files parent keys out b → a ≡ b
Set-once MayRefuse off files parent keys out a b = by
  where
    store : Store
    store = store_alone files

    set : Prepared
    set = set_alone store parent keys

    one : (early other : Option Early) → IsEarly formats store set early → IsEarly formats store set other
        → early ≡ other
    one early other p q = IsEarly-once formats laws.storable-breaks_nowhere laws.BreaksAt-once store set early other p q

    by : AnswersSet MayRefuse files parent keys out a → AnswersSet MayRefuse files parent keys out b → a ≡ b
    by (Refused why early p) (Refused other early' q) =
        let same : other ≡ why = same_Some other why (one (Some other) (Some why) early' early) in
        told_once (fault_of store.mounts why) a b p (subst (λ (w : Early). IsSomeAnd (fault_of store.mounts w) (λ f. IsRefusal f b)) same q)
    by (Refused why early p) (Judged early' late is q) = absurd (none-some why (one None (Some why) early' early))
    by (Judged early late is p) (Refused why early' q) = absurd (none-some why (one None (Some why) early early'))
    by (Judged early late is p) (Judged early' other is' q) =
        let same : told_alone other ≡ told_alone late = verdict-once MayRefuse formats store [] store.start set off other late (permitted MayRefuse store store.start out other b q) (permitted MayRefuse store store.start out late a p) is' is in
        judgement_once MayRefuse store store.start out (told_alone late) a b (alone_judged MayRefuse store store.start out late a p)
        (subst (λ (l : Late). IsJudgement MayRefuse store store.start out l b) same (alone_judged MayRefuse store store.start out other b q))

-- ---- where more refusals are allowed, or the answer stores something

module _ (Fewer More : List ℕ → Type 0) (a : Answer) (follows : a.stored ≡ [] → RefusesMore Fewer More) where
  judgement_more : (store : Store) (keys : KeyMap) (out : List ℕ) (late : Late)
      → IsJudgement Fewer store keys out late a → IsJudgement More store keys out late a
  judgement_more store keys out (Same aside) p = p
  judgement_more store keys out (Conflict mount by) p = p
  judgement_more store keys out (TooLarge mount size) p = p
  judgement_more store keys out (Invalid violation risen) p =
      (λ rose. follows (ap (λ (x : Answer). x.stored) p.1) violation.given (p.0 rose), p.1)
  judgement_more store keys out (DatabaseFull weight) p = p
  judgement_more store keys out (HistoryFull weight) p = p
  judgement_more store keys out (Commits commit aside) p = p

  pub Set-more : (files : List MountedFile) (parent : Name) (keys : KeyMap) (out : List ℕ)
      → AnswersSet Fewer files parent keys out a → AnswersSet More files parent keys out a
  Set-more files parent keys out (Refused why early p) = Refused why early p
  Set-more files parent keys out (Judged early late is p) =
      Judged early late is (judgement_more (store_alone files) (store_alone files).start out late p)

-- ---- some answer

-- what refuses a set before the history is asked has a line, where each mount was fetched
record HasLine (mounts : List Mount) (why : Early) : Type 0 where
  told : PrepareFault
  is : fault_of mounts why ≡ Some told
  answer : Answer
  line : IsRefusal told answer

large_line : (mounts : List Mount) (m n : ℕ) (mount : Mount) (why : Early) → slice_get mounts m ≡ Some mount
    → fault_of mounts why ≡ option_map (λ (mt : Mount). fault.FileTooLarge mt.at n) (slice_get mounts m)
    → HasLine mounts why
large_line mounts m n mount why there e = record {
  told = fault.FileTooLarge mount.at n;
  is = e ∙ ap (option_map (λ (mt : Mount). fault.FileTooLarge mt.at n)) there;
  answer = refused 5 (file_too_large mount.at n);
  line = refl;
}

table_line : (mounts : List Mount) (why : TableFault) → HasLine mounts (BadTable why)
table_line mounts why =
    record { told = fault.BadTable why; is = refl; answer = refused 5 (bad_table_line why); line = refl }

value_line : (mounts : List Mount) (key : Name) (n : ℕ) → HasLine mounts (ValueTooLong key n)
value_line mounts key n =
    record { told = fault.ValueTooLong key n; is = refl; answer = refused 5 (value_too_long key n); line = refl }

storable_line : (mounts : List Mount) (m : ℕ) (key : Name) (mount : Mount) → slice_get mounts m ≡ Some mount
    → HasLine mounts (NotStorable m key)
storable_line mounts m key mount there = record {
  told = fault.NotStorable mount.at key;
  is = ap (option_map (λ (mt : Mount). fault.NotStorable mt.at key)) there;
  answer = refused 5 (not_storable mount.at key);
  line = refl;
}

-- the first of some answers is one of them
pub first_is : {A : Type 0} (told : ℕ → Option A) (ms : List ℕ) (x : A) → first_some told ms ≡ Some x
    → (m : ℕ) × (told m ≡ Some x)
first_is told [] x e = absurd (none-some x e)
first_is {A} told (m ∷ ms) x e = by (told m) refl e (first_is told ms x)
  where
    by : (o : Option A) → told m ≡ o → option_or o (first_some told ms) ≡ Some x
        → (first_some told ms ≡ Some x → (k : ℕ) × (told k ≡ Some x)) → (k : ℕ) × (told k ≡ Some x)
    by None is h rest = rest h
    by (Some y) is h rest = (m, is ∙ h)

module _ (store : Store) (wanted : ℕ → KeyMap) where
  of_mount : (m : ℕ) (why : Early) (told : Mount → Option Early)
      → ((mount : Mount) → slice_get store.mounts m ≡ Some mount → told mount ≡ Some why → HasLine store.mounts why)
      → option_and_then told (slice_get store.mounts m) ≡ Some why → HasLine store.mounts why
  of_mount m why told line e = by (slice_get store.mounts m) refl e
    where
      by : (o : Option Mount) → slice_get store.mounts m ≡ o → option_and_then told o ≡ Some why
          → HasLine store.mounts why
      by None is h = absurd (none-some why h)
      by (Some mount) is h = line mount is h

  heavy_line : (m : ℕ) (why : Early) → too_heavy store wanted m ≡ Some why → HasLine store.mounts why
  heavy_line m why =
      of_mount m why (λ mount. heavy_contents m (contents store m mount (wanted m))) (λ mount there e. by mount there (nat_lt heaviest_map (weight (contents store m mount (wanted m)))) e)
    where
      by : (mount : Mount) → slice_get store.mounts m ≡ Some mount → (b : Bool)
          → cond b (Some (TooHeavy m (saturated (weight (contents store m mount (wanted m)))))) None ≡ Some why
          → HasLine store.mounts why
      by mount there true h =
          subst (HasLine store.mounts) (same_Some (TooHeavy m (saturated (weight (contents store m mount (wanted m))))) why h) (large_line store.mounts m (saturated (weight (contents store m mount (wanted m)))) mount (TooHeavy m (saturated (weight (contents store m mount (wanted m))))) there refl)
      by mount there false h = absurd (none-some why h)

  long_line : (m : ℕ) (why : Early) → too_long formats store wanted m ≡ Some why → HasLine store.mounts why
  long_line m why =
      of_mount m why (λ mount. long_text m (formats.text mount.kind (contents store m mount (wanted m)))) (λ mount there e. by mount there (length (formats.text mount.kind (contents store m mount (wanted m)))) e)
    where
      by : (mount : Mount) → slice_get store.mounts m ≡ Some mount → (n : ℕ)
          → cond (nat_lt longest_file n) (Some (TooLong m n)) None ≡ Some why → HasLine store.mounts why
      by mount there n h = told (nat_lt longest_file n) h
        where
          told : (b : Bool) → cond b (Some (TooLong m n)) None ≡ Some why → HasLine store.mounts why
          told true e =
              subst (HasLine store.mounts) (same_Some (TooLong m n) why e) (large_line store.mounts m n mount (TooLong m n) there refl)
          told false e = absurd (none-some why e)

  bad_line : (m : ℕ) (why : Early) → bad_table store wanted m ≡ Some why → HasLine store.mounts why
  bad_line m why =
      of_mount m why (λ mount. cond (name_eq mount.at own_point) (fault_of_table (table_of (wanted m))) None) (λ mount there e. by (name_eq mount.at own_point) e)
    where
      of : (r : Result (List Mount) TableFault) → fault_of_table r ≡ Some why → HasLine store.mounts why
      of (Ok mounts) e = absurd (none-some why e)
      of (Err tf) e = subst (HasLine store.mounts) (same_Some (BadTable tf) why e) (table_line store.mounts tf)

      by : (b : Bool) → cond b (fault_of_table (table_of (wanted m))) None ≡ Some why → HasLine store.mounts why
      by true e = of (table_of (wanted m)) e
      by false e = absurd (none-some why e)

either_of : {A : Type 0} (one other : Option A) (x : A) → option_or one other ≡ Some x
    → (one ≡ Some x) ⊎ (other ≡ Some x)
either_of None other x e = inr e
either_of (Some y) other x e = inl e

module _ (store : Store) (set : Prepared) (why : Early) (fetched : (m : ℕ) → why ≡ NotFetched m → ⊥) where
  abbrev wanted_for : ℕ → KeyMap
  wanted_for = wanted_in store set

  of_before : before_formats store set ≡ Some why → HasLine store.mounts why
  of_before e = elim (either_of (not_fetched set) _ why e) as (λ x. HasLine store.mounts why) [
    | inl unseen ↦ absurd (seen set.involved unseen)
    | inr rest ↦ elim (either_of (long_value store set) _ why rest) as (λ x. HasLine store.mounts why) [
      | inl long ↦ valued (first_long_in (points_of store) set.involved set.keys) long
      | inr heavy ↦ let found = first_is (too_heavy store wanted_for) set.touched why heavy in heavy_line store wanted_for found.0 why found.1
    ]
  ]
    where
      seen : (ms : List ℕ) → first_some (λ m. if_unseen m (set.fronts m)) ms ≡ Some why → ⊥
      seen ms e =
          let found = first_is (λ m. if_unseen m (set.fronts m)) ms why e in unseen_is found.0 (set.fronts found.0) found.1
        where
          unseen_is : (m : ℕ) (o : Option ℕ) → if_unseen m o ≡ Some why → ⊥
          unseen_is m None h = fetched m (sym (same_Some (NotFetched m) why h))
          unseen_is m (Some front) h = none-some why h

      valued : (o : Option (Name × ℕ)) → option_map (λ (long : Name × ℕ). ValueTooLong long.0 long.1) o ≡ Some why
          → HasLine store.mounts why
      valued None h = absurd (none-some why h)
      valued (Some long) h =
          subst (HasLine store.mounts) (same_Some (ValueTooLong long.0 long.1) why h) (value_line store.mounts long.0 long.1)

  of_behind : behind_formats formats store set ≡ Some why → HasLine store.mounts why
  of_behind e = elim (either_of (first_some (too_long formats store wanted_for) set.touched) _ why e) as (λ x. HasLine store.mounts why) [
    | inl long ↦ let found = first_is (too_long formats store wanted_for) set.touched why long in long_line store wanted_for found.0 why found.1
    | inr bad ↦ let found = first_is (bad_table store wanted_for) set.touched why bad in bad_line store wanted_for found.0 why found.1
  ]

  of_breaks : BreaksFirst formats store set (Some why) → HasLine store.mounts why
  of_breaks b =
      subst (HasLine store.mounts) (same_Some (NotStorable b.mount b.name) why (sym b.is)) (storable_line store.mounts b.mount b.name b.breaks.mount b.breaks.there)

  line_of : IsEarly formats store set (Some why) → HasLine store.mounts why
  line_of = by (before_formats store set) refl
    where
      by : (o : Option Early) → before_formats store set ≡ o
          → Follows o (Some why) (BreaksFirst formats store set (Some why) ⊎ (AllByRecursion (IsStorableAt formats store wanted_for) set.touched × (Some why ≡ behind_formats formats store set)))
          → HasLine store.mounts why
      by (Some told) is h = of_before (is ∙ sym h)
      by None is (inl b) = of_breaks b
      by None is (inr all) = of_behind (sym all.1)

-- it can't be that a set has no answer
pub Set-some : (MayRefuse : List ℕ → Type 0) → RefusesEach MayRefuse
    → (files : List MountedFile) (parent : Name) (keys : KeyMap) (out : List ℕ)
    → ¬ ((answer : Answer) → ¬ AnswersSet MayRefuse files parent keys out answer)
Set-some MayRefuse each files parent keys out none = by (IsEarly-some formats laws.storable-or_breaks store set)
  where
    store : Store
    store = store_alone files

    set : Prepared
    set = set_alone store parent keys

    judged : IsEarly formats store set None → (late : Late) → IsLate formats store [] store.start set late
        → IsPermitted MayRefuse late → (answer : Answer) × IsJudgement MayRefuse store store.start out late answer
    judged early (Same aside) is may = (done out, refl)
    judged early (Conflict mount by) is may =
        absurd (never-blocked formats store the_handle parent keys (Conflict mount by) mount by is refl)
    judged early (TooLarge mount size) is may =
        absurd (never-large formats store the_handle parent keys early (TooLarge mount size) mount size is refl)
    judged early (Invalid violation risen) is may = (refused 5 (invalid violation), (may, refl))
    judged early (DatabaseFull weight) is may = (refused 5 (database_full weight), refl)
    judged early (HistoryFull weight) is may = (refused 5 (history_full weight), refl)
    judged early (Commits commit aside) is may = (stores (stored_by store store.start commit) out, refl)

    by : ((early : Option Early) × IsEarly formats store set early) → ⊥
    by (Some why, early) =
        let line = line_of store set why (λ m e. never-unseen formats store the_handle parent keys (Some why) m early (ap Some e)) early in
        none line.answer (Refused why early (subst (λ (o : Option PrepareFault). IsSomeAnd o (λ f. IsRefusal f line.answer)) (sym line.is) line.line))
    by (None, early) =
        verdict-some MayRefuse formats store [] store.start set each (λ late is may.
        let answer = judged early late is may in
        none answer.0 (Judged early late is answer.1))

-- ---- what the code refuses

-- a fault that tells an unseen mount is that of one
named : (mounts : List Mount) (m : ℕ) (told : Mount → PrepareFault) (at : Name)
    → ((mt : Mount) → told mt ≡ fault.NotFetched at → ⊥)
    → option_map told (slice_get mounts m) ≡ Some (fault.NotFetched at) → ⊥
named mounts m told at apart e = by (slice_get mounts m) e
  where
    by : (o : Option Mount) → option_map told o ≡ Some (fault.NotFetched at) → ⊥
    by None h = none-some (fault.NotFetched at) h
    by (Some mt) h = apart mt (same_Some (told mt) (fault.NotFetched at) h)

unseen_early : (mounts : List Mount) (early : Early) (at : Name) → fault_of mounts early ≡ Some (fault.NotFetched at)
    → (m : ℕ) × (early ≡ NotFetched m)
unseen_early mounts (NotFetched m) at e = (m, refl)
unseen_early mounts (ValueTooLong key n) at e = absurd cc
unseen_early mounts (TooHeavy m n) at e =
    absurd (named mounts m (λ (mt : Mount). fault.FileTooLarge mt.at n) at (λ mt x. absurd cc) e)
unseen_early mounts (NotStorable m key) at e =
    absurd (named mounts m (λ (mt : Mount). fault.NotStorable mt.at key) at (λ mt x. absurd cc) e)
unseen_early mounts (TooLong m n) at e =
    absurd (named mounts m (λ (mt : Mount). fault.FileTooLarge mt.at n) at (λ mt x. absurd cc) e)
unseen_early mounts (BadTable why) at e = absurd cc

-- what has a line is no want of memory, and neither is an unseen mount
pub not_memory : (why : PrepareFault) (answer : Answer) → IsRefusal why answer → why ≡ fault.Memory → ⊥
not_memory why answer refusal is = absurd (subst (λ (w : PrepareFault). IsRefusal w answer) is refusal)

pub unseen_not_memory : (why : PrepareFault) (at : Name) → why ≡ fault.NotFetched at → why ≡ fault.Memory → ⊥
unseen_not_memory why at unseen memory =
    absurd (let both : fault.NotFetched at ≡ fault.Memory = sym unseen ∙ memory in cc)

module _ (files : List MountedFile) (parent : Name) (keys : KeyMap) (rec : Record) (fetched : HasFetched files parent rec) where
  abbrev the_store : Store
  the_store = store_alone files

  alone_is : prepared (points_of the_store) (handle_of rec) (record_of rec) parent keys
      ≡ set_alone the_store parent keys
  alone_is =
      ap₂ (λ (h : ℕ) (r : model.Record). prepared (points_of the_store) h r parent keys) fetched.handle fetched.is

  pub never_unfetched : (why : PrepareFault)
      → IsRefused formats the_store (handle_of rec) (record_of rec) parent keys why → (at : Name)
      → why ≡ fault.NotFetched at → ⊥
  never_unfetched why refused_as at is =
      let unseen = unseen_early the_store.mounts refused_as.early at (refused_as.is ∙ ap Some is) in
      never-unseen formats the_store the_handle parent keys (Some refused_as.early) unseen.0 (subst (λ (s : Prepared). IsEarly formats the_store s (Some refused_as.early)) alone_is refused_as.refused) (ap Some unseen.1)

  pub refused_answers : (MayRefuse : List ℕ → Type 0) (out : List ℕ) (why : PrepareFault) (answer : Answer)
      → IsRefused formats the_store (handle_of rec) (record_of rec) parent keys why → IsRefusal why answer
      → AnswersSet MayRefuse files parent keys out answer
  refused_answers MayRefuse out why answer refused_as refusal =
      Refused refused_as.early (subst (λ (s : Prepared). IsEarly formats the_store s (Some refused_as.early)) alone_is refused_as.refused)
      (subst (λ (o : Option PrepareFault). IsSomeAnd o (λ f. IsRefusal f answer)) (sym refused_as.is) refusal)
