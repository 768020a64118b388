-- One more handle is opened, with the keys in `proc` of its session.
use Rattle.std.proofs.Common.{◌≡◌, ◌⊎◌, inl, inr, ℕ, ◌+◌, ◌-◌, ◌<◌, ◌≤◌, Bool, true, false, cond, nat_eq, List, [], ◌∷◌, ◌++◌, length, get_or, sym, ap, subst, ◌∙◌, arith}
use Rattle.std.proofs.lemmas.Bool.{cases_lt}
use Rattle.std.proofs.lemmas.List.{get_or_append_left, get_or_push, length_push}
use Rattle.std.proofs.lemmas.List.Sums.{count_by-le-length, length-filter}
use Rattle.std.proofs.lemmas.Option.{none-some, unwrap_or-slice_get}
use Rattle.std.specs.FinMap as map
use Rattle.std.specs.List.{range_with_len}
use Rattle.batch_run.specs.Closes.{AreFresh, IsFresh}
use Rattle.batch_script.specs.Rows.{most_sessions}
use Rattle.batch_script.specs.declared.steps.ProcLine.{ProcLine}
use Rattle.batch_script.specs.declared.steps.Script.{Script}
use Rattle.batch_run.specs.Opening.{AreOpened}
use Rattle.general_words.proofs.Maps.{each-insert}
use Rattle.kdb_handle.specs.Handles.{HandleValue}
use Rattle.kdb_handle.specs.Stores.{AreFree}
use Rattle.kdb_handle.specs.Story.{Told}
use Rattle.model_batch.specs.Scripts.{has_session, keys_by, procs_of, sessions_of}
use Rattle.model_maps.specs.Entry.{Entry, plain_entry}
use Rattle.model_maps.specs.KeyMap.{KeyMap, no_keys}
use Rattle.model_names.specs.Name.{Name}
use Rattle.model_names.specs.Order.{name_cmp}
use Rattle.model_names.proofs.OrderLemmas.{name_cmp-IsAntisymmetric, name_cmp_total}
use Rattle.model_names.specs.declared.namespaces.Namespace.TheVariants.{Proc}
use Rattle.seat_lock.specs.Known.{Known, Place}
use Rattle.store_core.specs.declared.cores.Plan.{Plan}
use Rattle.store_verdict.specs.ProcKeys.{AreProc}

-- ---- keys

pub no_keys_proc : AreProc no_keys
no_keys_proc name entry there = absurd (none-some entry (sym (map.get-empty name_cmp name) ∙ there))

-- a key in `proc` more
pub insert_proc : (keys : KeyMap) (key : Name) (entry : Entry) → AreProc keys → key.namespace ≡ Proc
    → AreProc (map.insert keys key entry)
insert_proc keys key entry are is =
    each-insert name_cmp_total name_cmp-IsAntisymmetric (λ name other. name.namespace ≡ Proc) keys key entry are is

-- the keys that a line gives a session, or doesn't
abbrev pub with_line : ℕ → ProcLine → KeyMap → KeyMap
with_line session line keys =
    cond (nat_eq line.session session) (map.insert keys line.key (plain_entry line.value)) keys

pub with_line_proc : (session : ℕ) (line : ProcLine) (keys : KeyMap) → AreProc keys → line.key.namespace ≡ Proc
    → AreProc (with_line session line keys)
with_line_proc session line keys are is = by (nat_eq line.session session)
  where
    by : (b : Bool) → AreProc (cond b (map.insert keys line.key (plain_entry line.value)) keys)
    by true = insert_proc keys line.key (plain_entry line.value) are is
    by false = are

-- ---- handles

-- the keys of the handle of a place are those of the session there
pub procs_at : (script : Script) (numbers : List ℕ) (i : ℕ) → numbers ≡ sessions_of script
    → procs_of script (i + 1) ≡ keys_by (get_or numbers i 0) script.proc no_keys
procs_at script numbers i are =
    ap (λ (n : ℕ). keys_by n script.proc no_keys)
    (unwrap_or-slice_get (sessions_of script) (i + 1 - 1) 0 ∙ ap (λ (k : ℕ). get_or (sessions_of script) k 0) (omega arith) ∙ ap (λ (ns : List ℕ). get_or ns i 0) (sym are))

-- no script has more sessions than there may be
pub few-sessions : (script : Script) → length (sessions_of script) ≤ most_sessions
few-sessions script =
    omega (arith, length-filter (has_session script) (range_with_len 1 most_sessions), count_by-le-length (has_session script) (range_with_len 1 most_sessions))

-- one more handle
pub one-more : (handles all : List HandleValue) (handle : HandleValue) (place : ℕ) → all ≡ handles ++ handle ∷ []
    → length handles ≡ place → length all ≡ place + 1
one-more handles all handle place pushed count =
    omega (arith, ap (λ (hs : List HandleValue). length hs) pushed, length_push handles handle)

module _ {F : Type 0} (lock : Place Told) (plan : Plan F) where
  pub fresh-push : (procs : ℕ → KeyMap) (handles : List HandleValue) (handle : HandleValue)
      → AreFresh lock plan procs handles → IsFresh lock plan (length handles + 1) (procs (length handles + 1)) handle
      → AreFresh lock plan procs (handles ++ handle ∷ [])
  fresh-push procs handles handle each last i d lt = by (cases_lt i (length handles))
    where
      Is : ℕ → HandleValue → Type 0
      Is k h = IsFresh lock plan (k + 1) (procs (k + 1)) h

      by : (i < length handles) ⊎ (length handles ≤ i) → Is i (get_or (handles ++ handle ∷ []) i d)
      by (inl less) = subst (Is i) (sym (get_or_append_left handles (handle ∷ []) d i less)) (each i d less)
      by (inr more) =
          let same : length handles ≡ i = omega (arith, length_push handles handle) in
          subst (Is i) (sym (get_or_push handles handle d i same)) (subst (λ (k : ℕ). Is k handle) same last)

  -- the next one is, for the session of its place
  pub opened-next : (script : Script) (numbers : List ℕ) (lines : List ProcLine) (place : ℕ)
      (handles all : List HandleValue) (handle : HandleValue) (seats left : List (Known Told)) (room now : ℕ)
      → numbers ≡ sessions_of script → lines ≡ script.proc → length handles ≡ place
      → all ≡ handles ++ handle ∷ [] → AreOpened lock plan script handles seats room
      → IsFresh lock plan (lock.seats - length seats) (keys_by (get_or numbers place 0) lines no_keys) handle
      → AreFree lock left now → length left + 1 ≡ length seats
      → AreOpened lock plan script all left now
  opened-next script numbers lines place handles all handle seats left room now are given count pushed was fresh free fewer =
      let number : lock.seats - length seats ≡ length handles + 1 = omega (arith, was.all) in
      let keys : keys_by (get_or numbers place 0) lines no_keys ≡ procs_of script (length handles + 1) =
      ap (λ (ls : List ProcLine). keys_by (get_or numbers place 0) ls no_keys) given ∙ sym (procs_at script numbers place are) ∙ ap (λ (k : ℕ). procs_of script (k + 1)) (sym count) in
      record {
        fresh = subst (AreFresh lock plan (procs_of script)) (sym pushed)
            (fresh-push (procs_of script) handles handle was.fresh
            (subst (λ (n : ℕ). IsFresh lock plan n (procs_of script (length handles + 1)) handle) number (subst (λ (ks : KeyMap). IsFresh lock plan (lock.seats - length seats) ks handle) keys fresh)));
        free = free;
        all = omega (arith, ap (λ (hs : List HandleValue). length hs) pushed, length_push handles handle, was.all);
      }
