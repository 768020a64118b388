-- The bytes of files mean one thing: each file one state, and all of them one opening.
use Rattle.std.specs.Prelude.{◌≡◌, ℕ, ◌≤◌, ◌<◌, zero, suc, true, false, List, [], ◌∷◌, length, slice_get, map as over, Option, Some, None, Result, Ok, Err}
use Rattle.std.specs.Option.{option_map}
use Rattle.std.proofs.Common.{refl, sym, ap, ap₂, ◌∙◌, subst, inl, inr, arith}
use Rattle.std.proofs.lemmas.Option.{none-some, same_Some, slice_get-map}
use Rattle.kdb_outside.specs.declared.kinds.Kind.{Kind}
use Rattle.kdb_outside.specs.declared.kinds.Kind.TheVariants.{Dump}
use Rattle.model_names.specs.Name.{Name}
use Rattle.model_maps.specs.KeyMap.{KeyMap}
use Rattle.mount_table.specs.Points.{own_point}
use Rattle.mount_table.specs.Table.{table_of, own_mount}
use Rattle.mount_table.specs.declared.faults.TableFault.{TableFault}
use Rattle.mount_table.specs.declared.mounts.Mount.{Mount}
use Rattle.backend_files.specs.WholeFile.{longest_file}
use Rattle.mounted_files.specs.Whole.{whole, all_fit}
use Rattle.mounted_files.specs.Owned.{not_owned_by}
use Rattle.set_split.specs.Parts.{owned_by}
use Rattle.mounted_files.specs.Files.{Badness, Holds, IsCause, IsState, AreStates, Reading, points_of}
use Rattle.mounted_files.specs.Opening.{IsMade, IsOwnFault, MakesTable, IsOpened, Opens}
use Rattle.mounted_files.specs.Weighed.{weighed}
use Rattle.mounted_files.specs.declared.causes.Cause.{Cause}
use Rattle.mounted_files.specs.declared.causes.Cause.TheVariants.{TooLong, BadFile, TooHeavy}
use Rattle.mounted_files.specs.declared.files.FileState.{FileState}
use Rattle.mounted_files.specs.declared.files.FileState.TheVariants.{Good, Bad}
use Rattle.mounted_files.specs.declared.files.MountedFile.{MountedFile}
use Rattle.mounted_files.specs.declared.refusals.OpenRefusal.{OpenRefusal}
use Rattle.mounted_files.specs.declared.refusals.OpenRefusal.TheVariants as refusal

few_not_long : (bytes : List ℕ) → length bytes ≤ longest_file → longest_file < length bytes → ⊥
few_not_long bytes few long = omega (arith, few, long)

one_test : true ≡ false → ⊥
one_test e = absurd cc

-- lists with the same items at each place are the same
same_by_places : {A : Type 0} (xs ys : List A) → ((i : ℕ) → slice_get xs i ≡ slice_get ys i) → xs ≡ ys
same_by_places [] [] same = refl
same_by_places [] (y ∷ ys) same = absurd (none-some y (same zero))
same_by_places (x ∷ xs) [] same = absurd (none-some x (sym (same zero)))
same_by_places (x ∷ xs) (y ∷ ys) same =
    ap₂ (λ a more. a ∷ more) (same_Some x y (same zero)) (same_by_places xs ys (λ i. same (suc i)))

same_file : (a b : MountedFile) → a.mount ≡ b.mount → a.state ≡ b.state → a ≡ b
same_file a b mount state = λ i. record { mount = mount i; state = state i }

same_ok : {A E : Type 0} (x y : A) → ◌≡◌ {A = Result A E} (Ok x) (Ok y) → x ≡ y
same_ok x y e = ap (λ r. elim r [ Ok a ↦ a | Err f ↦ x ]) e

same_err : {A E : Type 0} (x y : E) → ◌≡◌ {A = Result A E} (Err x) (Err y) → x ≡ y
same_err x y e = ap (λ r. elim r [ Ok a ↦ x | Err f ↦ f ]) e

ok_not_err : {A E : Type 0} (x : A) (y : E) → ◌≡◌ {A = Result A E} (Ok x) (Err y) → ⊥
ok_not_err x y e = absurd cc

points_by_mounts : (xs ys : List MountedFile) → over (λ file. file.mount) xs ≡ over (λ file. file.mount) ys
    → points_of xs ≡ points_of ys
points_by_mounts [] [] same = refl
points_by_mounts [] (y ∷ ys) same = absurd cc
points_by_mounts (x ∷ xs) [] same = absurd cc
points_by_mounts (x ∷ xs) (y ∷ ys) same =
    ap₂ (λ a more. a ∷ more) (ap (λ (m : Mount). m.at) (same_Some x.mount y.mount (ap (λ ms. slice_get ms zero) same))) (points_by_mounts xs ys (ap tail same))
  where
    tail : List Mount → List Mount
    tail [] = []
    tail (m ∷ ms) = ms

-- for formats whose bytes read as one map, or are bad at one line
module _ (Reads : Reading) (IsBad : Badness)
    (one_reading : (kind : Kind) (bytes : List ℕ) (keys other : KeyMap) → Reads kind bytes keys → Reads kind bytes other → keys ≡ other)
    (read_is_not_bad : (kind : Kind) (bytes : List ℕ) (keys : KeyMap) (line : ℕ) → Reads kind bytes keys → IsBad kind bytes line → ⊥)
    (one_line : (kind : Kind) (bytes : List ℕ) (line other : ℕ) → IsBad kind bytes line → IsBad kind bytes other → line ≡ other) where
  pub Holds-once : (point : Name) (kind : Kind) (bytes : List ℕ) (found other : KeyMap)
      → Holds Reads point kind bytes found → Holds Reads point kind bytes other → found ≡ other
  Holds-once point kind bytes found other p q =
      p.is ∙ (ap (whole point) (one_reading kind bytes p.keys q.keys p.reads_as.reads q.reads_as.reads) ∙ sym q.is)

  -- what holds keys is not bad
  pub Holds-not_bad : (point : Name) (kind : Kind) (bytes : List ℕ) (found : KeyMap) (cause : Cause)
      → Holds Reads point kind bytes found → IsCause Reads IsBad point kind bytes cause → ⊥
  Holds-not_bad point kind bytes found (TooLong n) p q = few_not_long bytes p.reads_as.few q.long
  Holds-not_bad point kind bytes found (BadFile line) p (inl q) =
      read_is_not_bad kind bytes p.keys line p.reads_as.reads q.bad
  Holds-not_bad point kind bytes found (BadFile line) p (inr q) =
      one_test (sym p.fit ∙ (ap (all_fit point) (one_reading kind bytes p.keys q.keys p.reads_as.reads q.reads_as.reads) ∙ q.too_long))
  Holds-not_bad point kind bytes found (TooHeavy weight) p q = q

  -- a bad line and a long name are apart
  line-once : (point : Name) (kind : Kind) (bytes : List ℕ) (m n : ℕ) → IsCause Reads IsBad point kind bytes (BadFile m)
      → IsCause Reads IsBad point kind bytes (BadFile n) → m ≡ n
  line-once point kind bytes m n (inl p) (inl q) = one_line kind bytes m n p.bad q.bad
  line-once point kind bytes m n (inl p) (inr q) = absurd (read_is_not_bad kind bytes q.keys m q.reads_as.reads p.bad)
  line-once point kind bytes m n (inr p) (inl q) = absurd (read_is_not_bad kind bytes p.keys n p.reads_as.reads q.bad)
  line-once point kind bytes m n (inr p) (inr q) = p.is ∙ sym q.is

  long_not_bad : (point : Name) (kind : Kind) (bytes : List ℕ) (line : ℕ) → longest_file < length bytes
      → IsCause Reads IsBad point kind bytes (BadFile line) → ⊥
  long_not_bad point kind bytes line long (inl q) = few_not_long bytes q.few long
  long_not_bad point kind bytes line long (inr q) = few_not_long bytes q.reads_as.few long

  pub Cause-once : (point : Name) (kind : Kind) (bytes : List ℕ) (a b : Cause) → IsCause Reads IsBad point kind bytes a
      → IsCause Reads IsBad point kind bytes b → a ≡ b
  Cause-once point kind bytes (TooLong m) (TooLong n) p q = ap TooLong (p.is ∙ sym q.is)
  Cause-once point kind bytes (TooLong m) (BadFile n) p q = absurd (long_not_bad point kind bytes n p.long q)
  Cause-once point kind bytes (TooLong m) (TooHeavy n) p q = absurd q
  Cause-once point kind bytes (BadFile m) (TooLong n) p q = absurd (long_not_bad point kind bytes m q.long p)
  Cause-once point kind bytes (BadFile m) (BadFile n) p q = ap BadFile (line-once point kind bytes m n p q)
  Cause-once point kind bytes (BadFile m) (TooHeavy n) p q = absurd q
  Cause-once point kind bytes (TooHeavy m) b p q = absurd p

  State-once : (points : List Name) (i : ℕ) (mount : Mount) (bytes : List ℕ) (a b : FileState)
      → IsState Reads IsBad points i mount bytes a → IsState Reads IsBad points i mount bytes b → a ≡ b
  State-once points i mount bytes (Good v s) (Good w t) (found, p, is_v, is_s) (other, q, is_w, is_t) =
      let same = Holds-once mount.at mount.kind bytes found other p q in
      ap₂ Good (is_v ∙ (ap (owned_by points i) same ∙ sym is_w)) (is_s ∙ (ap (not_owned_by points i) same ∙ sym is_t))
  State-once points i mount bytes (Good v s) (Bad cause) (found, p, is_v, is_s) q =
      absurd (Holds-not_bad mount.at mount.kind bytes found cause p q)
  State-once points i mount bytes (Bad cause) (Good w t) p (other, q, is_w, is_t) =
      absurd (Holds-not_bad mount.at mount.kind bytes other cause q p)
  State-once points i mount bytes (Bad cause) (Bad other) p q =
      ap Bad (Cause-once mount.at mount.kind bytes cause other p q)

  -- files of the same mounts have the same states
  States-once : (bytes_of : List ℕ → List ℕ) (points : List Name) (xs ys : List MountedFile)
      → over (λ file. file.mount) xs ≡ over (λ file. file.mount) ys
      → AreStates Reads IsBad bytes_of points xs → AreStates Reads IsBad bytes_of points ys → xs ≡ ys
  States-once bytes_of points xs ys mounts p q =
      same_by_places xs ys (λ i. at i (slice_get xs i) (slice_get ys i) refl refl)
    where
      one : (i : ℕ) (x y : MountedFile) → slice_get xs i ≡ Some x → slice_get ys i ≡ Some y → x.mount ≡ y.mount → x ≡ y
      one i x y at_x at_y same =
          same_file x y same (State-once points i x.mount (bytes_of x.mount.file) x.state y.state (p i x at_x) (subst (λ (m : Mount). IsState Reads IsBad points i m (bytes_of m.file) y.state) (sym same) (q i y at_y)))

      mounts_at : (i : ℕ)
          → option_map (λ file. file.mount) (slice_get xs i) ≡ option_map (λ file. file.mount) (slice_get ys i)
      mounts_at i =
          sym (slice_get-map (λ (file : MountedFile). file.mount) xs i)
          ∙ (ap (λ ms. slice_get ms i) mounts ∙ slice_get-map (λ (file : MountedFile). file.mount) ys i)

      at : (i : ℕ) (a b : Option MountedFile) → slice_get xs i ≡ a → slice_get ys i ≡ b
          → slice_get xs i ≡ slice_get ys i
      at i None None at_a at_b = at_a ∙ sym at_b
      at i None (Some y) at_a at_b =
          absurd (none-some y.mount (ap (option_map (λ (file : MountedFile). file.mount)) (sym at_a) ∙ (mounts_at i ∙ ap (option_map (λ (file : MountedFile). file.mount)) at_b)))
      at i (Some x) None at_a at_b =
          absurd (none-some x.mount (ap (option_map (λ (file : MountedFile). file.mount)) (sym at_b) ∙ (sym (mounts_at i) ∙ ap (option_map (λ (file : MountedFile). file.mount)) at_a)))
      at i (Some x) (Some y) at_a at_b =
          let same = same_Some x.mount y.mount (ap (option_map (λ (file : MountedFile). file.mount)) (sym at_a) ∙ (mounts_at i ∙ ap (option_map (λ (file : MountedFile). file.mount)) at_b)) in
          at_a ∙ (ap Some (one i x y at_a at_b same) ∙ sym at_b)

  -- the table's own file makes one table
  Table-once : (bytes : List ℕ) (a b : Result (List Mount) TableFault) → MakesTable Reads bytes a
      → MakesTable Reads bytes b → a ≡ b
  Table-once bytes a b p q =
      sym p.is ∙ (ap table_of (Holds-once own_point Dump bytes p.keys q.keys p.holds q.holds) ∙ q.is)

  Opened-once : (bytes_of : List ℕ → List ℕ) (a b : List MountedFile) → IsOpened Reads IsBad bytes_of a
      → IsOpened Reads IsBad bytes_of b → a ≡ b
  Opened-once bytes_of a b p q =
      let mounts = same_ok _ _ (Table-once (bytes_of own_mount.file) _ _ p.table q.table) in
      let points = points_by_mounts p.unweighed q.unweighed mounts in
      let states = subst (λ ps. AreStates Reads IsBad bytes_of ps q.unweighed) (sym points) q.states in
      p.is
      ∙ (ap weighed (States-once bytes_of (points_of p.unweighed) p.unweighed q.unweighed mounts p.states states) ∙ sym q.is)

  -- the table's own file has one fault
  Own_fault-once : (bytes : List ℕ) (a b : OpenRefusal) → IsOwnFault Reads IsBad bytes a
      → IsOwnFault Reads IsBad bytes b → a ≡ b
  Own_fault-once bytes (refusal.TooLong m) (refusal.TooLong n) p q = ap refusal.TooLong (p.is ∙ sym q.is)
  Own_fault-once bytes (refusal.TooLong m) (refusal.BadFile n) p q =
      absurd (long_not_bad own_point Dump bytes n p.long q)
  Own_fault-once bytes (refusal.TooLong m) (refusal.BadTable fault) p q =
      absurd (few_not_long bytes q.holds.reads_as.few p.long)
  Own_fault-once bytes (refusal.BadFile m) (refusal.TooLong n) p q =
      absurd (long_not_bad own_point Dump bytes m q.long p)
  Own_fault-once bytes (refusal.BadFile m) (refusal.BadFile n) p q =
      ap refusal.BadFile (line-once own_point Dump bytes m n p q)
  Own_fault-once bytes (refusal.BadFile m) (refusal.BadTable fault) p q =
      absurd (Holds-not_bad own_point Dump bytes q.keys (BadFile m) q.holds p)
  Own_fault-once bytes (refusal.BadTable fault) (refusal.TooLong n) p q =
      absurd (few_not_long bytes p.holds.reads_as.few q.long)
  Own_fault-once bytes (refusal.BadTable fault) (refusal.BadFile n) p q =
      absurd (Holds-not_bad own_point Dump bytes p.keys (BadFile n) p.holds q)
  Own_fault-once bytes (refusal.BadTable fault) (refusal.BadTable other) p q =
      ap refusal.BadTable (same_err fault other (Table-once bytes (Err fault) (Err other) p q))
  Own_fault-once bytes refusal.Memory b p q = absurd p
  Own_fault-once bytes a refusal.Memory p q = absurd q

  -- what is opened has no fault there
  opened_not_at_fault : (bytes_of : List ℕ → List ℕ) (files : List MountedFile) (why : OpenRefusal)
      → IsOpened Reads IsBad bytes_of files → IsOwnFault Reads IsBad (bytes_of own_mount.file) why → ⊥
  opened_not_at_fault bytes_of files (refusal.TooLong n) p q =
      few_not_long (bytes_of own_mount.file) p.table.holds.reads_as.few q.long
  opened_not_at_fault bytes_of files (refusal.BadFile n) p q =
      Holds-not_bad own_point Dump (bytes_of own_mount.file) p.table.keys (BadFile n) p.table.holds q
  opened_not_at_fault bytes_of files (refusal.BadTable fault) p q =
      ok_not_err _ fault (Table-once (bytes_of own_mount.file) _ (Err fault) p.table q)
  opened_not_at_fault bytes_of files refusal.Memory p q = q

  -- files have one opening
  pub Opens-once : (bytes_of : List ℕ → List ℕ) (a b : Result (List MountedFile) OpenRefusal)
      → Opens Reads IsBad bytes_of a → Opens Reads IsBad bytes_of b → IsMade a → IsMade b → a ≡ b
  Opens-once bytes_of (Ok a) (Ok b) p q made_a made_b = ap Ok (Opened-once bytes_of a b p q)
  Opens-once bytes_of (Ok a) (Err b) p q made_a made_b = absurd (opened_not_at_fault bytes_of a b p (q made_b))
  Opens-once bytes_of (Err a) (Ok b) p q made_a made_b = absurd (opened_not_at_fault bytes_of b a q (p made_a))
  Opens-once bytes_of (Err a) (Err b) p q made_a made_b =
      ap Err (Own_fault-once (bytes_of own_mount.file) a b (p made_a) (q made_b))
