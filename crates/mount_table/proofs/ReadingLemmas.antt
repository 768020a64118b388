-- What reading entries one by one comes to.
use Rattle.std.proofs.Common.{◌≡◌, ℕ, ◌+◌, ◌<◌, Bool, true, false, cond, ◌||◌, List, [], ◌∷◌, ◌++◌, length, drop, get_or, Option, Some, None, Result, Ok, Err, ok_or, is_some, refl, sym, ap, ap₂, ◌∙◌, add-one, drop-cons}
use Rattle.std.specs.Cmp.Lexicographic.{texts_ties}
use Rattle.std.specs.FinMap.{find}
use Rattle.std.specs.FinMap.Entries.{put, find-put}
use Rattle.std.specs.Ordering.{eq_by_cmp}
use Rattle.std.proofs.lemmas.Cmp.{nat_list_cmp_total}
use Rattle.std.proofs.lemmas.List.Folds.{list_any-append}
use Rattle.model_names.specs.Name.{Name, Part}
use Rattle.general_words.specs.Texts.{is_text, text_cmp}
use Rattle.kdb_outside.specs.declared.kinds.Kind.{Kind}
use Rattle.mount_table.specs.Answers.{IsFault}
use Rattle.mount_table.specs.Points.{point_of, file_of}
use Rattle.mount_table.specs.Reading.{◌>>=◌, counted, kind_said, mount_of, next_mount, is_taken, mounts_from}
use Rattle.mount_table.specs.declared.entries.MountEntry.{MountEntry}
use Rattle.mount_table.specs.declared.faults.TableFault.{TableFault}
use Rattle.mount_table.specs.declared.faults.TableFault.TheVariants.{BadMountpoint, NoPath, BadPath, UnknownPlugin, FileTwice}
use Rattle.mount_table.specs.declared.mounts.Mount.{Mount}

-- ---- one entry

-- the mount of an entry, by what is read one after another
abbrev with_kind : Part → Name → List ℕ → Option Kind → Result Mount TableFault
with_kind text point file kind =
    ok_or kind (UnknownPlugin text) >>= (λ kind. Ok (record { at = point; file = file; kind = kind; by_key = false }))

abbrev with_file : Part → Option (List ℕ) → Name → Option (List ℕ) → Result Mount TableFault
with_file text plugin point file = ok_or file (BadPath text) >>= (λ file. with_kind text point file (kind_said plugin))

abbrev with_parts : Part → Option (List ℕ) → Option Name → Option (List ℕ) → Result Mount TableFault
with_parts text plugin point path =
    ok_or point (BadMountpoint text) >>= (λ point. ok_or path (NoPath text) >>= (λ path. with_file text plugin point (file_of path)))

pub no_point : (text entry : Part) (said : MountEntry) → None ≡ point_of text → entry ≡ text
    → mount_of text said ≡ Err (BadMountpoint entry)
no_point text entry said none same =
    ap (λ point. with_parts text said.plugin point said.path) (sym none) ∙ ap (λ t. Err (BadMountpoint t)) (sym same)

pub no_path : (text entry : Part) (said : MountEntry) (point : Name) → Some point ≡ point_of text → None ≡ said.path
    → entry ≡ text → mount_of text said ≡ Err (NoPath entry)
no_path text entry said point at none same =
    ap₂ (with_parts text said.plugin) (sym at) (sym none) ∙ ap (λ t. Err (NoPath t)) (sym same)

pub no_file : (text entry : Part) (said : MountEntry) (point : Name) (path : List ℕ) → Some point ≡ point_of text
    → Some path ≡ said.path → None ≡ file_of path → entry ≡ text → mount_of text said ≡ Err (BadPath entry)
no_file text entry said point path at given none same =
    ap₂ (with_parts text said.plugin) (sym at) (sym given) ∙ ap (with_file text said.plugin point) (sym none)
    ∙ ap (λ t. Err (BadPath t)) (sym same)

pub by_kind : (text : Part) (said : MountEntry) (point : Name) (path file : List ℕ) (kind : Option Kind)
    → Some point ≡ point_of text → Some path ≡ said.path → Some file ≡ file_of path → kind ≡ kind_said said.plugin
    → mount_of text said
    ≡ (ok_or kind (UnknownPlugin text) >>= (λ kind. Ok (record { at = point; file = file; kind = kind; by_key = false })))
by_kind text said point path file kind at given named is =
    ap₂ (with_parts text said.plugin) (sym at) (sym given) ∙ ap (with_file text said.plugin point) (sym named)
    ∙ ap (with_kind text point file) (sym is)

-- ---- the files that are taken

pub same_next : (p q : List ℕ → Bool) → ((file : List ℕ) → p file ≡ q file) → (text : Part) (said : MountEntry)
    → next_mount p text said ≡ next_mount q text said
same_next p q same text said = by (mount_of text said)
  where
    by : (r : Result Mount TableFault)
        → (r >>= (λ mount. cond (p mount.file) (Err (FileTwice text)) (counted text said mount)))
        ≡ (r >>= (λ mount. cond (q mount.file) (Err (FileTwice text)) (counted text said mount)))
    by (Ok mount) = ap (λ b. cond b (Err (FileTwice text)) (counted text said mount)) (same mount.file)
    by (Err fault) = refl

or_swapped : (a b : Bool) → (a || (b || false)) ≡ (b || a)
or_swapped true true = refl
or_swapped true false = refl
or_swapped false true = refl
or_swapped false false = refl

-- the file of a mount behind others
pub is_taken-more : (mounts : List Mount) (mount : Mount) (file : List ℕ)
    → is_taken (mounts ++ mount ∷ []) file ≡ (is_text file mount.file || is_taken mounts file)
is_taken-more mounts mount file =
    list_any-append (λ m. is_text file m.file) mounts (mount ∷ [])
    ∙ or_swapped (is_taken mounts file) (is_text file mount.file)

some_cond : (b : Bool) (o : Option (Unit {0})) → is_some (cond b (Some tt) o) ≡ (b || is_some o)
some_cond true o = refl
some_cond false o = refl

pub find-file : (files : List (List ℕ × Unit {0})) (file other : List ℕ)
    → is_some (find text_cmp other (put text_cmp file tt files))
    ≡ (is_text other file || is_some (find text_cmp other files))
find-file files file other =
    ap is_some (find-put text_cmp nat_list_cmp_total other file tt files)
    ∙ some_cond (eq_by_cmp text_cmp other file) (find text_cmp other files)
    ∙ ap (λ b. b || is_some (find text_cmp other files)) (sym (texts_ties other file))

-- ---- one entry after another

module _ (mounts : List Mount) (entries : List (Part × MountEntry)) (i : ℕ) (entry : Part × MountEntry) (lt : i < length entries) (is : entry ≡ get_or entries i entry) where
  next_is : mounts_from mounts (drop i entries)
      ≡ (next_mount (is_taken mounts) entry.0 entry.1 >>= (λ mount. mounts_from (mounts ++ mount ∷ []) (drop (i + 1) entries)))
  next_is =
      ap (mounts_from mounts) (drop-cons entries i entry lt ∙ ap₂ (λ e es. e ∷ es) (sym is) (ap (λ n. drop n entries) (sym (add-one i))))

  pub mounts_from-ok : (mount : Mount) → next_mount (is_taken mounts) entry.0 entry.1 ≡ Ok mount
      → mounts_from (mounts ++ mount ∷ []) (drop (i + 1) entries) ≡ mounts_from mounts (drop i entries)
  mounts_from-ok mount next =
      sym (next_is ∙ ap (λ r. r >>= (λ mount. mounts_from (mounts ++ mount ∷ []) (drop (i + 1) entries))) next)

  pub mounts_from-err : (fault : TableFault) → next_mount (is_taken mounts) entry.0 entry.1 ≡ Err fault
      → mounts_from mounts (drop i entries) ≡ Err fault
  mounts_from-err fault next =
      next_is ∙ ap (λ r. r >>= (λ mount. mounts_from (mounts ++ mount ∷ []) (drop (i + 1) entries))) next

-- ---- faults

-- a fault that comes in one place comes in another
pub IsFault-along : {A B : Type 0} (r : Result A TableFault) (s : Result B TableFault)
    → ((fault : TableFault) → r ≡ Err fault → s ≡ Err fault) → (fault : TableFault) → IsFault r fault → IsFault s fault
IsFault-along r s on fault h other = on fault (h other)
