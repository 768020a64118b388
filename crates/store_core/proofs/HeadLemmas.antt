-- The files of a table's mounts, mount by mount from the last one on, and the header that names them.
use Rattle.std.proofs.Common.{◌≡◌, ℕ, ◌+◌, List, [], ◌∷◌, length, drop, slice_get, Some, ap, sym, ◌∙◌, arith}
use Rattle.std.proofs.lemmas.List.{drop_all, drop_more}
use Rattle.std.proofs.lemmas.Option.{get_or_from_slice_get, slice_get_within}
use Rattle.std.specs.FinMap as map
use Rattle.std.specs.FinMap.Entries.{put}
use Rattle.std.specs.Cmp.Lexicographic.{nat_list_cmp_total}
use Rattle.general_words.specs.Texts.{text_cmp}
use Rattle.general_words.proofs.Maps.{entries-empty}
use Rattle.journal_codec.specs.Header.{IsHeader}
use Rattle.model_files.specs.Files.{file_names}
use Rattle.model_files.proofs.NameLemmas.{names_are_header}
use Rattle.mount_table.specs.Table.{own_mount}
use Rattle.mount_table.specs.declared.mounts.Mount.{Mount}
use Rattle.mounted_files.specs.Opening.{IsMadeByKeys}
use Rattle.mounted_files.proofs.PlaceLemmas.{own-there}
use Rattle.store_core.specs.Heads.{names_at}
use Rattle.store_core.proofs.OpeningLemmas.{have_files}

-- what is left behind a place, from the element there on
drop-next : {A : Type 0} (xs : List A) (i : ℕ) (x : A) → slice_get xs i ≡ Some x → drop i xs ≡ x ∷ drop (i + 1) xs
drop-next xs i x there =
    drop_more xs i x (slice_get_within xs i x there)
    ∙ ap (λ y. y ∷ drop (i + 1) xs) (get_or_from_slice_get xs i x x there)

-- behind the last mount there are no files
pub files-none : (mounts : List Mount) (n : ℕ) → n ≡ length mounts → [] ≡ map.entries (file_names (drop n mounts))
files-none mounts n all =
    sym (entries-empty text_cmp Unit)
    ∙ ap (λ (ms : List Mount). map.entries (file_names ms)) (sym (drop_all n mounts (omega (arith, all))))

-- one mount more, before those from a place on
pub files-next : (mounts : List Mount) (n : ℕ) (mount : Mount) → slice_get mounts n ≡ Some mount
    → put text_cmp mount.file tt (map.entries (file_names (drop (n + 1) mounts)))
    ≡ map.entries (file_names (drop n mounts))
files-next mounts n mount there =
    sym (map.entries-insert nat_list_cmp_total (file_names (drop (n + 1) mounts)) mount.file tt)
    ∙ ap (λ (ms : List Mount). map.entries (file_names ms)) (sym (drop-next mounts n mount there))

-- the files of a table that some keys make are a header
pub is_header : (mounts : List Mount) → IsMadeByKeys mounts → IsHeader (names_at mounts)
is_header mounts made =
    let own = own-there made.keys mounts made.is in
    let there = slice_get_within mounts own.place own_mount own.is in
    names_are_header mounts (have_files made.keys mounts made.is) (omega (arith, there))
