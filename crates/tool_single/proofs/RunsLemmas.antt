-- What one run leaves to the next.
use Rattle.std.proofs.Common.{◌≡◌, ◌⊎◌, inl, inr, ℕ, ◌≤◌, true, List, [], ◌∷◌, Option, Some, None, refl, sym, ap, subst, ◌∙◌, arith}
use Rattle.std.proofs.lemmas.Option.{none-some}
use Rattle.intent_journal.specs.Opened.{open_list, opened_files}
use Rattle.journal_steps.specs.Moments.{LeavesOnly}
use Rattle.intent_journal.specs.Outcomes.{HasOnly, IsBroken}
use Rattle.journal_steps.specs.Outcomes.{with_entry, SameFiles, IsEither}
use Rattle.intent_journal.specs.States.{IsCalm}
use Rattle.intent_journal.proofs.ListCalm.{one_calm}
use Rattle.intent_journal.proofs.Opened.{calm_files, opening_reads}
use Rattle.journal_codec.specs.declared.files.FileText.{FileText}
use Rattle.kdb_outside.specs.Crashes.{EveryImage}
use Rattle.kdb_outside.specs.Faults.{HasRisen}
use Rattle.kdb_outside.specs.Images.{Image, IsImage}
use Rattle.kdb_outside.specs.declared.disks.Disk.{Ghosts}
use Rattle.tool_commands.specs.Report.{IsAnswered}
use Rattle.kdb_outside.specs.SinkChange.{SinkChange as Change}
use Rattle.tool_single.specs.Answer.{Answer, Texts, entry_of, with_stored}
use Rattle.tool_single.specs.Crashing.{MayBeLeft, MayRemain, StaysCalm}
use Rattle.tool_single.specs.Ran.{Ran, ByAnswer, NotStored, Without}
use Rattle.tool_single.specs.Runs.{Ending, Ended, ThenCrashed, CutOff, OneRun, IsAtRest, HasRan, MetNoFault, Finds, AreRuns, IsStored, IsGiven, HasStored, IsHistory, IsDecided, found_next, AreDecided, files_behind, doubt_behind, AreFound}
use Rattle.tool_single.proofs.CalmLemmas.{with-same}
use Rattle.tool_single.proofs.DecidedLemmas.{one_outcome}

-- ---- a decided journal has one outcome

-- it is one of two, if all its outcomes are one of them
pub decided_either : (files image : Image) (doubt : Option (List FileText)) → IsDecided image
    → HasOnly (IsEither files doubt) image
    → IsEither files doubt (opened_files image)
decided_either files image doubt decided only =
    only.each (opened_files image) (open_list image, opening_reads image only.not_broken, λ file own. refl)

pub decided_only : (files image : Image) → IsDecided image → ¬ IsBroken image
    → SameFiles (opened_files image) files → HasOnly (IsEither files None) image
decided_only files image decided whole same = record {
  not_broken = whole;
  each = λ outcome has. inl (λ file own. one_outcome image outcome decided has file own ∙ same file own);
}

-- nothing in doubt
pub no_doubt : (files outcome : Image) → IsEither files None outcome → SameFiles outcome files
no_doubt files outcome (inl same) = same
no_doubt files outcome (inr one) = absurd (none-some one.0 one.1)

-- ---- what a run did, as far as the next finds it

pub record Went {D : Type 0} (g : Ghosts D) (files : Image) (doubt : Option (List FileText)) (run : OneRun D) : Type 0 where
  pub texts : Texts
  pub whole : (texts ≡ []) ⊎ IsStored g run texts
  pub given : IsAnswered run.status → IsGiven g run texts
  pub crash : LeavesOnly g run.found run.left (MayBeLeft files doubt (opened_files (g.seen run.found)) texts)
  pub rests : IsAnswered run.status ⊎ MetNoFault (g.faults run.found) (g.faults run.left)
      → EveryImage (g.may_leave run.left) (MayRemain files doubt (opened_files (g.seen run.found)) texts)
  pub calm : MetNoFault (g.faults run.found) (g.faults run.left) → StaysCalm g files doubt texts run.found run.left

no_rise : (before now mid : ℕ) → MetNoFault before now → HasRisen before mid → mid ≤ now → ⊥
no_rise before now mid well (inl lt) le = let same = well.0 in omega (arith, same, lt, le)
no_rise before now mid well (inr end) le =
    let same = well.0 in let short = well.1 in omega (arith, same, short, end, le)

unrisen : (before now : ℕ) → MetNoFault before now → HasRisen before now → ⊥
unrisen before now well rose = no_rise before now now well rose (omega arith)

-- what a disk may leave now it might have left since any moment
abbrev pub CountsNow : {D : Type 0} → Ghosts D → Type 0
CountsNow {D} g =
    (disk : D) (since : ℕ) (image : Image) → g.tells disk ≡ true → since ≤ g.moment disk → IsImage (g.may_leave disk) image → g.left_since disk since image

pub went_of : {D : Type 0} (g : Ghosts D) (files : Image) (doubt : Option (List FileText)) (run : OneRun D)
    → CountsNow g
    → HasRan g run → IsCalm (g.seen run.found) (g.may_leave run.found) files doubt → Went g files doubt run
went_of g files doubt run counts has calm = elim (has.ran files doubt calm) as (λ r. Went g files doubt run) [
  | ByAnswer f ↦ record {
    texts = f.answer.stored;
    whole = inr (record { answer = f.answer; answers = f.answers; stored = refl });
    given = λ answered. record { answer = f.answer; answers = f.answers; gives = f.answered answered; stored = refl };
    crash = f.crash;
    rests = λ how. f.lasting;
    calm = λ well. f.calm (unrisen (g.faults run.found) (g.faults run.left) well);
  }
  | NotStored f ↦ record {
    texts = f.unstored.answer.stored;
    whole = inr (record { answer = f.unstored.answer; answers = f.unstored.answers; stored = refl });
    given = λ answered. absurd (answered.1 f.status_is);
    crash = f.unstored.crash;
    rests = λ how. elim how [
      | inl answered ↦ absurd (answered.1 f.status_is)
      | inr well ↦ absurd (no_rise (g.faults run.found) (g.faults run.left) (g.faults f.unstored.uncommitted.journal.disk) well f.unstored.uncommitted.rose f.unstored.uncommitted.goes.later)
    ];
    calm = λ well. absurd (no_rise (g.faults run.found) (g.faults run.left) (g.faults f.unstored.uncommitted.journal.disk) well f.unstored.uncommitted.rose f.unstored.uncommitted.goes.later);
  }
  | Without f ↦ record {
    texts = [];
    whole = inl refl;
    given = λ answered. elim f.cause [ inl is ↦ absurd (answered.0 is) | inr is ↦ absurd (answered.1 is) ];
    crash = f.crash;
    rests = λ how image is. f.crash.each image (counts run.left (g.moment run.found) image (has.goes.tells ∙ has.tells) has.goes.moment is);
    calm = λ well. let none = unrisen (g.faults run.found) (g.faults run.left) well in (f.unserved none).calm none;
  }
]

-- what remains behind a run that nothing was in doubt before
remains : (files opened : Image) (texts : Texts) (image : Image) → SameFiles opened files
    → MayRemain files None opened texts image → HasOnly (IsEither (with_stored texts files) None) image
remains files opened [] image same only = only
remains files opened (text ∷ texts) image same only = record {
  not_broken = only.not_broken;
  each = λ outcome has. inl (λ file own. only.each outcome has file own ∙ with-same opened files (entry_of (text ∷ texts)) same file own);
}

-- what is left of one that was cut off: all that it stores, or nothing
pub record IsLeft (files image : Image) (texts : Texts) : Type 0 where
  pub kept : Texts
  pub all : (kept ≡ []) ⊎ (kept ≡ texts)
  pub only : HasOnly (IsEither (with_stored kept files) None) image

amid : (files opened : Image) (texts : Texts) (image : Image) → SameFiles opened files → IsDecided image
    → MayBeLeft files None opened texts image → IsLeft files image texts
amid files opened [] image same decided only = record { kept = []; all = inl refl; only = only }
amid files opened (text ∷ texts) image same decided (inl only) = record { kept = []; all = inl refl; only = only }
amid files opened (text ∷ texts) image same decided (inr only) =
    elim (decided_either opened image (Some (entry_of (text ∷ texts))) decided only) [
      | inl is ↦ record { kept = []; all = inl refl; only = decided_only files image decided only.not_broken (λ file own. is file own ∙ same file own) }
      | inr one ↦
          let entry : one.0 ≡ entry_of (text ∷ texts) = sym (same_entry (entry_of (text ∷ texts)) one.0 one.1) in
          record {
            kept = text ∷ texts;
            all = inr refl;
            only = decided_only (with_stored (text ∷ texts) files) image decided only.not_broken
                (λ file own. one.2 file own ∙ ap (λ (e : List FileText). with_entry opened e file) entry ∙ with-same opened files (entry_of (text ∷ texts)) same file own);
          }
    ]
  where
    same_entry : (a b : List FileText) → Some a ≡ Some b → a ≡ b
    same_entry a b e = cc

-- a disk is calm with the files that all its images stand for, and the doubt
calm_with : (seen : Image) (leaves : List ℕ → List ℕ → Type 0) (files others : Image)
    (doubt other : Option (List FileText))
    → IsCalm seen leaves others other
    → EveryImage leaves (HasOnly (IsEither files doubt)) → IsCalm seen leaves files doubt
calm_with seen leaves files others doubt other calm only =
    record {
      same = calm.same;
      former = calm.former;
      journal = calm.journal;
      not_broken = calm.not_broken;
      outcomes = λ image outcome is has. (only image is).each outcome has;
    }

-- a disk that stays calm is at rest
calm_rests : {D : Type 0} (g : Ghosts D) (files : Image) (doubt : Option (List FileText)) (texts : Texts) (disk end : D)
    → StaysCalm g files doubt texts disk end → IsAtRest g end
calm_rests g files doubt texts disk end stays = (with_stored texts (opened_files (g.seen disk)), stays.rest, stays.calm)

-- the disk that a run gave back to the next is at rest, and holds what the run stored
record Rests {D : Type 0} (g : Ghosts D) (run : OneRun D) : Type 0 where
  pub at_rest : IsAtRest g run.left
  pub how : IsAnswered run.status ⊎ MetNoFault (g.faults run.found) (g.faults run.left)

rests_by : {D : Type 0} (g : Ghosts D) (files : Image) (doubt : Option (List FileText)) (run : OneRun D)
    → Went g files doubt run
    → MetNoFault (g.faults run.found) (g.faults run.left) ⊎ (IsAnswered run.status × IsAtRest g run.left) → Rests g run
rests_by g files doubt run went (inl well) =
    record { at_rest = calm_rests g files doubt went.texts run.found run.left (went.calm well); how = inr well }
rests_by g files doubt run went (inr answered) = record { at_rest = answered.1; how = inl answered.0 }

-- what one run has stored, and the next one's disk
pub record Passes {D : Type 0} (g : Ghosts D) (files : Image) (run : OneRun D) (next : D) : Type 0 where
  pub texts : Texts
  pub stored : HasStored g files run texts
  pub calm : IsCalm (g.seen next) (g.may_leave next) (with_stored texts files) None

passes : {D : Type 0} (g : Ghosts D) (files : Image) (run : OneRun D) (next : D) → Went g files None run
    → SameFiles (opened_files (g.seen run.found)) files
    → (ending : Ending) → run.ending ≡ ending → Finds g run next ending
    → (run.ending ≡ CutOff → IsDecided (g.seen next)) → Passes g files run next
passes g files run next went found Ended is finds decided =
    let rests = rests_by g files None run went finds.1 in
    record {
      texts = went.texts;
      stored = record { found = found; acknowledged = λ acknowledged. went.given acknowledged.0; whole = went.whole };
      calm = subst (λ d. IsCalm (g.seen d) (g.may_leave d) (with_stored went.texts files) None) (sym finds.0)
          (calm_with (g.seen run.left) (g.may_leave run.left) (with_stored went.texts files) rests.at_rest.0 None rests.at_rest.1 rests.at_rest.2
          (λ image of. remains files (opened_files (g.seen run.found)) went.texts image found (went.rests rests.how image of)));
    }
passes g files run next went found ThenCrashed is finds decided = record {
  texts = went.texts;
  stored = record { found = found; acknowledged = λ acknowledged. went.given acknowledged.0; whole = went.whole };
  calm = one_calm (g.seen next) (g.may_leave next) (with_stored went.texts files) None finds.0
      (remains files (opened_files (g.seen run.found)) went.texts (g.seen next) found (went.rests (inl finds.2) (g.seen next) finds.1));
}
passes g files run next went found CutOff is finds decided =
    let left = amid files (opened_files (g.seen run.found)) went.texts (g.seen next) found (decided is) (went.crash.each (g.seen next) finds.1) in
    record {
      texts = left.kept;
      stored = record { found = found; acknowledged = λ acknowledged. absurd (acknowledged.1 is); whole = whole left.kept left.all };
      calm = one_calm (g.seen next) (g.may_leave next) (with_stored left.kept files) None finds.0 left.only;
    }
  where
    whole : (kept : Texts) → (kept ≡ []) ⊎ (kept ≡ went.texts) → (kept ≡ []) ⊎ IsStored g run kept
    whole kept (inl none) = inl none
    whole kept (inr all) = elim went.whole [
      | inl none ↦ inl (all ∙ none)
      | inr stored ↦ inr (record { answer = stored.answer; answers = stored.answers; stored = all ∙ stored.stored })
    ]

-- the disk that some runs begin with is the next that is found
first_found : {D : Type 0} (g : Ghosts D) (first : D) (runs : List (OneRun D)) (last : D) → AreRuns g first runs last
    → found_next runs last ≡ first
first_found g first [] last are = sym are.0
first_found g first (run ∷ runs) last are = are.0

abbrev pub ReadsImages : {D : Type 0} → Ghosts D → Type 0
ReadsImages {D} g = (disk : D) → g.tells disk ≡ true → IsImage (g.may_leave disk) (g.seen disk)

pub history_of : {D : Type 0} (g : Ghosts D) → CountsNow g → ReadsImages g
    → (first : D) (files : Image) (runs : List (OneRun D)) (last : D)
    → IsCalm (g.seen first) (g.may_leave first) files None
    → AreRuns g first runs last → AreDecided g runs last → (stored : List Texts) × IsHistory g files runs stored last
history_of g counts reads first files [] last calm are decided =
    let here = subst (λ d. IsCalm (g.seen d) (g.may_leave d) files None) are.0 calm in
    ([], no_doubt files (opened_files (g.seen last)) (calm_files (g.seen last) (g.may_leave last) files None here (reads last are.1)))
history_of g counts reads first files (run ∷ runs) last calm are decided =
    let here = subst (λ d. IsCalm (g.seen d) (g.may_leave d) files None) (sym are.0) calm in
    let found = no_doubt files (opened_files (g.seen run.found)) (calm_files (g.seen run.found) (g.may_leave run.found) files None here (reads run.found are.1.tells)) in
    let next = are.2.0 in
    let whole = λ (cut : run.ending ≡ CutOff). subst (λ d. IsDecided (g.seen d)) (first_found g next runs last are.2.2) (decided.0 cut) in
    let passed = passes g files run next (went_of g files None run counts are.1 here) found run.ending refl are.2.1 whole in
    let behind = history_of g counts reads next (with_stored passed.texts files) runs last passed.calm are.2.2 decided.1 in
    (passed.texts ∷ behind.0, (passed.stored, behind.1))

-- ---- with one entry in doubt

-- what remains behind a run
remains_so : (files opened : Image) (doubt : Option (List FileText)) (texts : Texts) (image : Image)
    → MayRemain files doubt opened texts image
    → HasOnly (IsEither (files_behind files opened texts) (doubt_behind doubt texts)) image
remains_so files opened doubt [] image only = only
remains_so files opened doubt (text ∷ texts) image only =
    record { not_broken = only.not_broken; each = λ outcome has. inl (only.each outcome has) }

-- what is left of one that was cut off
amid_so : (files opened : Image) (doubt : Option (List FileText)) (texts : Texts) (image : Image)
    → MayBeLeft files doubt opened texts image
    → HasOnly (IsEither files doubt) image ⊎ HasOnly (IsEither opened (Some (entry_of texts))) image
amid_so files opened doubt [] image only = inl only
amid_so files opened doubt (text ∷ texts) image only = only

-- the disk that the next run finds is calm with what the run stored, or, where it was cut off, as before or with that
-- in doubt
abbrev pub IsCalmBehind : {D : Type 0} → Ghosts D → Image → Option (List FileText) → OneRun D → D → Texts → Type 0
IsCalmBehind g files doubt run next texts =
    IsCalm (g.seen next) (g.may_leave next) (files_behind files (opened_files (g.seen run.found)) texts) (doubt_behind doubt texts)
    ⊎ ((run.ending ≡ CutOff) × (IsCalm (g.seen next) (g.may_leave next) files doubt
    ⊎ IsCalm (g.seen next) (g.may_leave next) (opened_files (g.seen run.found)) (Some (entry_of texts))))

calm_behind : {D : Type 0} (g : Ghosts D) (files : Image) (doubt : Option (List FileText)) (run : OneRun D) (next : D)
    (went : Went g files doubt run)
    → (ending : Ending) → run.ending ≡ ending → Finds g run next ending → IsCalmBehind g files doubt run next went.texts
calm_behind g files doubt run next went Ended is finds =
    let opened = opened_files (g.seen run.found) in
    let rests = rests_by g files doubt run went finds.1 in
    let later = files_behind files opened went.texts in
    let after = doubt_behind doubt went.texts in
    let behind : IsCalm (g.seen run.left) (g.may_leave run.left) later after =
    calm_with (g.seen run.left) (g.may_leave run.left) later rests.at_rest.0 after rests.at_rest.1 rests.at_rest.2 (λ image of. remains_so files opened doubt went.texts image (went.rests rests.how image of)) in
    inl (subst (λ d. IsCalm (g.seen d) (g.may_leave d) later after) (sym finds.0) behind)
calm_behind g files doubt run next went ThenCrashed is finds =
    inl (one_calm (g.seen next) (g.may_leave next) (files_behind files (opened_files (g.seen run.found)) went.texts) (doubt_behind doubt went.texts) finds.0
    (remains_so files (opened_files (g.seen run.found)) doubt went.texts (g.seen next) (went.rests (inl finds.2) (g.seen next) finds.1)))
calm_behind g files doubt run next went CutOff is finds =
    inr (
      is,
      elim (amid_so files (opened_files (g.seen run.found)) doubt went.texts (g.seen next) (went.crash.each (g.seen next) finds.1)) [
        | inl only ↦ inl (one_calm (g.seen next) (g.may_leave next) files doubt finds.0 only)
        | inr only ↦ inr (one_calm (g.seen next) (g.may_leave next) (opened_files (g.seen run.found)) (Some (entry_of went.texts)) finds.0 only)
      ],
    )

pub found_by : {D : Type 0} (g : Ghosts D) → CountsNow g → ReadsImages g
    → (first : D) (files : Image) (doubt : Option (List FileText)) (runs : List (OneRun D)) (last : D)
    → IsCalm (g.seen first) (g.may_leave first) files doubt → AreRuns g first runs last
    → AreFound g files doubt runs last
found_by g counts reads first files doubt [] last calm are =
    let here = subst (λ d. IsCalm (g.seen d) (g.may_leave d) files doubt) are.0 calm in
    calm_files (g.seen last) (g.may_leave last) files doubt here (reads last are.1)
found_by g counts reads first files doubt (run ∷ runs) last calm are =
    let here = subst (λ d. IsCalm (g.seen d) (g.may_leave d) files doubt) (sym are.0) calm in
    let opened = opened_files (g.seen run.found) in
    let went = went_of g files doubt run counts are.1 here in
    let next = are.2.0 in (
      calm_files (g.seen run.found) (g.may_leave run.found) files doubt here (reads run.found are.1.tells),
      (
        went.texts,
        went.given,
        went.whole,
        elim (calm_behind g files doubt run next went run.ending refl are.2.1) [
          | inl stored ↦ inl (found_by g counts reads next (files_behind files opened went.texts) (doubt_behind doubt went.texts) runs last stored are.2.2)
          | inr cut ↦ inr (
            cut.0,
            elim cut.1 [
              | inl before ↦ inl (found_by g counts reads next files doubt runs last before are.2.2)
              | inr doubtful ↦ inr (found_by g counts reads next opened (Some (entry_of went.texts)) runs last doubtful are.2.2)
            ],
          )
        ],
      ),
    )

-- ---- what the top call ensures

-- of a fault of the input nothing is asked
pub any_input : {D : Type 0} (g : Ghosts D) (files : Image) (doubt : Option (List FileText))
    (Answered : Answer → Type 0) (input_failed : Type 0) (disk end : D) (status : ℕ) (out err : Change)
    → Ran g files doubt Answered input_failed disk end status out err
    → Ran g files doubt Answered (Unit {0}) disk end status out err
any_input g files doubt Answered input_failed disk end status out err (ByAnswer f) = ByAnswer f
any_input g files doubt Answered input_failed disk end status out err (NotStored f) = NotStored f
any_input g files doubt Answered input_failed disk end status out err (Without f) = Without (record {
  cause = f.cause;
  prefix = f.prefix;
  crash = f.crash;
  unserved = f.unserved;
  why = λ well. elim (f.why well) [
    | inl memory ↦ inl memory
    | inr (inl of_err) ↦ inr (inl of_err)
    | inr (inr of_input) ↦ inr (inr (of_input.0, tt))
  ];
})
