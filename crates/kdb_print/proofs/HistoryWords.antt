-- The words of the lines of a history, and that they tell it.
use Rattle.std.specs.Prelude.{◌≡◌, ◌≢◌, ℕ, zero, suc, ◌+◌, ◌-◌, ◌<◌, ◌≤◌, List, [], ◌∷◌, ◌++◌, length, drop, map as over, slice_get, slice_index, Some, None, codes}
use Rattle.std.proofs.Common.{refl, sym, ap, ap₂, ◌∙◌, subst, arith, append_assoc}
use Rattle.std.specs.FinMap as map
use Rattle.std.specs.Fmt.{decimal}
use Rattle.std.specs.List.{AllByRecursion, cons_option, flat_map}
use Rattle.std.specs.Option.{option_map}
use Rattle.std.proofs.lemmas.Fmt.{decimal_injective}
use Rattle.std.proofs.lemmas.Option.{get_or_from_slice_get, slice_get-map}
use Rattle.general_words.proofs.Lists.{some_is}
use Rattle.general_words.proofs.Places.{there_is}
use Rattle.kdb_print.proofs.Words.{AllSpell, AllSpell-append, HasWords, Line, Spells, line_at, name-IsWord, names-HasWords, names-once, names-spell, number-IsWord, numbers_test, word_at, words-append}
use Rattle.kdb_print.specs.Printed.{line_of_meta, line_of_touched, lines_of_change, lines_of_commit, lines_of_commits, points_of, session_of}
use Rattle.kdb_print.specs.Reading.{AreDistinct, AreNamed, IsCommitOf, IsNumber}
use Rattle.model_history.specs.Changes.{Change}
use Rattle.model_history.specs.History.{Commit}
use Rattle.model_maps.specs.Entry.{Entry}
use Rattle.model_names.specs.Name.{Name}
use Rattle.model_names.specs.WellFormed.{IsName}
use Rattle.model_quoting.proofs.AlikeLemmas.{quoted-once, shown-once}
use Rattle.model_quoting.proofs.CutLemmas.{Plain, quoted-IsWord}
use Rattle.model_quoting.specs.Quoted.{quoted, shown}
use Rattle.mount_table.specs.declared.mounts.Mount.{Mount}

abbrev pub words_of_meta : List ℕ × List ℕ → Line
words_of_meta (name, text) = (codes ".", quoted name ∷ quoted text ∷ [])

abbrev pub words_of_key : Name → Entry → List Line
words_of_key name entry =
    (codes "+", shown name ∷ quoted entry.value ∷ []) ∷ over words_of_meta (map.entries entry.meta)

abbrev pub words_of_change : Change → List Line
words_of_change (name, Some entry) = words_of_key name entry
words_of_change (name, None) = (codes "-", shown name ∷ []) ∷ []

abbrev pub words_of_commit : List Mount → List ℕ → ℕ → Commit → List Line
words_of_commit mounts sessions number commit =
    (codes "commit", decimal number ∷ codes "by" ∷ decimal (session_of sessions commit.handle) ∷ [])
    ∷ (codes "touched", over shown (points_of mounts commit.touched))
    ∷ flat_map words_of_change commit.changes

abbrev pub words_of_commits : List Mount → List ℕ → ℕ → List Commit → List Line
words_of_commits mounts sessions number [] = []
words_of_commits mounts sessions number (commit ∷ commits) =
    words_of_commit mounts sessions number commit ++ words_of_commits mounts sessions (number + 1) commits

metas-spell : (items : List (List ℕ × List ℕ)) → AllSpell (over words_of_meta items) (over line_of_meta items)
metas-spell [] = tt
metas-spell ((name, text) ∷ items) = (λ rest. simp append_assoc, metas-spell items)

change-spells : (change : Change) → AllSpell (words_of_change change) (lines_of_change change)
change-spells (name, Some entry) = (λ rest. simp append_assoc, metas-spell (map.entries entry.meta))
change-spells (name, None) = (λ rest. simp append_assoc, tt)

changes-spell : (changes : List Change) → AllSpell (flat_map words_of_change changes) (flat_map lines_of_change changes)
changes-spell [] = tt
changes-spell (change ∷ changes) =
    AllSpell-append (words_of_change change) (flat_map words_of_change changes) (lines_of_change change) (flat_map lines_of_change changes) (change-spells change) (changes-spell changes)

touched-spells : (points : List Name) → Spells (codes "touched", over shown points) (line_of_touched points)
touched-spells points rest = ap (λ text. codes "touched" ++ text) (names-spell points rest)

commit-spells : (mounts : List Mount) (sessions : List ℕ) (number : ℕ) (commit : Commit)
    → AllSpell (words_of_commit mounts sessions number commit) (lines_of_commit mounts sessions number commit)
commit-spells mounts sessions number commit =
    (λ rest. simp append_assoc, (touched-spells (points_of mounts commit.touched), changes-spell commit.changes))

pub commits-spell : (mounts : List Mount) (sessions : List ℕ) (number : ℕ) (commits : List Commit)
    → AllSpell (words_of_commits mounts sessions number commits) (lines_of_commits mounts sessions number commits)
commits-spell mounts sessions number [] = tt
commits-spell mounts sessions number (commit ∷ commits) =
    AllSpell-append (words_of_commit mounts sessions number commit) (words_of_commits mounts sessions (number + 1) commits) (lines_of_commit mounts sessions number commit) (lines_of_commits mounts sessions (number + 1) commits)
    (commit-spells mounts sessions number commit) (commits-spell mounts sessions (number + 1) commits)

metas-HasWords : (items : List (List ℕ × List ℕ)) → AllByRecursion HasWords (over words_of_meta items)
metas-HasWords [] = tt
metas-HasWords ((name, text) ∷ items) =
    ((Plain refl, (quoted-IsWord name, (quoted-IsWord text, tt))), metas-HasWords items)

change-HasWords : (change : Change) → AllByRecursion HasWords (words_of_change change)
change-HasWords (name, Some entry) =
    ((Plain refl, (name-IsWord name, (quoted-IsWord entry.value, tt))), metas-HasWords (map.entries entry.meta))
change-HasWords (name, None) = ((Plain refl, (name-IsWord name, tt)), tt)

changes-HasWords : (changes : List Change) → AllByRecursion HasWords (flat_map words_of_change changes)
changes-HasWords [] = tt
changes-HasWords (change ∷ changes) =
    words-append (words_of_change change) (flat_map words_of_change changes) (change-HasWords change) (changes-HasWords changes)

pub commits-HasWords : (mounts : List Mount) (sessions : List ℕ) (number : ℕ) (commits : List Commit)
    → AllByRecursion HasWords (words_of_commits mounts sessions number commits)
commits-HasWords mounts sessions number [] = tt
commits-HasWords mounts sessions number (commit ∷ commits) =
    words-append (words_of_commit mounts sessions number commit) (words_of_commits mounts sessions (number + 1) commits)
    ((Plain refl, (number-IsWord number, (Plain refl, (number-IsWord (session_of sessions commit.handle), tt)))), ((Plain refl, names-HasWords (points_of mounts commit.touched)), changes-HasWords commit.changes))
    (commits-HasWords mounts sessions (number + 1) commits)

-- lines of which the first is no metadata's
abbrev NoMeta : List Line → Type 0
NoMeta [] = Unit {0}
NoMeta ((first, words) ∷ lines) = first ≢ codes "."

-- lines of which the first is no change's
abbrev NoChange : List Line → Type 0
NoChange [] = Unit {0}
NoChange ((first, words) ∷ lines) = (first ≢ codes "+") × (first ≢ codes "-") × (first ≢ codes ".")

first_same : {a b : Line} {xs ys : List Line} → a ∷ xs ≡ b ∷ ys → a.0 ≡ b.0
first_same e = ap (λ lines. word_at 0 (line_at 0 lines)) e

-- words that begin with different bytes
other_byte : (a b : List ℕ) → slice_index a 0 ≢ slice_index b 0 → a ≢ b
other_byte a b other e = other (ap (λ word. slice_index word 0) e)

metas-cut : (xs ys : List (List ℕ × List ℕ)) (s t : List Line) → NoMeta s → NoMeta t
    → over words_of_meta xs ++ s ≡ over words_of_meta ys ++ t → (xs ≡ ys) × (s ≡ t)
metas-cut [] [] s t p q e = (refl, e)
metas-cut [] ((m, v) ∷ ys) [] t p q e = absurd cc
metas-cut [] ((m, v) ∷ ys) ((first, words) ∷ s) t p q e = absurd (p (first_same e))
metas-cut ((n, u) ∷ xs) [] s [] p q e = absurd cc
metas-cut ((n, u) ∷ xs) [] s ((first, words) ∷ t) p q e = absurd (q (sym (first_same e)))
metas-cut ((n, u) ∷ xs) ((m, v) ∷ ys) s t p q e =
    let name : n ≡ m = quoted-once n m (ap (λ lines. word_at 1 (line_at 0 lines)) e) in
    let text : u ≡ v = quoted-once u v (ap (λ lines. word_at 2 (line_at 0 lines)) e) in
    let rest = metas-cut xs ys s t p q (ap (drop 1) e) in
    (ap₂ (λ item items. item ∷ items) (ap₂ (λ a b. (a, b)) name text) rest.0, rest.1)

no_meta : (changes : List Change) (s : List Line) → NoChange s → NoMeta (flat_map words_of_change changes ++ s)
no_meta [] [] p = tt
no_meta [] ((first, words) ∷ s) p = p.2
no_meta ((name, Some entry) ∷ changes) s p = other_byte (codes "+") (codes ".") (λ e. numbers_test 43 46 e)
no_meta ((name, None) ∷ changes) s p = other_byte (codes "-") (codes ".") (λ e. numbers_test 45 46 e)

same_key : (n m : Name) (d e : Entry) → n ≡ m → d.value ≡ e.value → d.meta ≡ e.meta
    → ◌≡◌ {A = Change} (n, Some d) (m, Some e)
same_key n m d e name value meta = λ i. (name i, Some (record { value = value i; meta = meta i }))

changes-cut : (xs ys : List Change) (s t : List Line) → AllByRecursion (λ change. IsName change.0) xs
    → AllByRecursion (λ change. IsName change.0) ys → NoChange s → NoChange t
    → flat_map words_of_change xs ++ s ≡ flat_map words_of_change ys ++ t → (xs ≡ ys) × (s ≡ t)
changes-cut [] [] s t hs ks p q e = (refl, e)
changes-cut [] ((m, Some d) ∷ ys) [] t hs ks p q e = absurd cc
changes-cut [] ((m, None) ∷ ys) [] t hs ks p q e = absurd cc
changes-cut [] ((m, Some d) ∷ ys) ((first, words) ∷ s) t hs ks p q e = absurd (p.0 (first_same e))
changes-cut [] ((m, None) ∷ ys) ((first, words) ∷ s) t hs ks p q e = absurd (p.1 (first_same e))
changes-cut ((n, Some d) ∷ xs) [] s [] hs ks p q e = absurd cc
changes-cut ((n, None) ∷ xs) [] s [] hs ks p q e = absurd cc
changes-cut ((n, Some d) ∷ xs) [] s ((first, words) ∷ t) hs ks p q e = absurd (q.0 (sym (first_same e)))
changes-cut ((n, None) ∷ xs) [] s ((first, words) ∷ t) hs ks p q e = absurd (q.1 (sym (first_same e)))
changes-cut ((n, Some d) ∷ xs) ((m, None) ∷ ys) s t hs ks p q e =
    absurd (other_byte (codes "+") (codes "-") (λ f. numbers_test 43 45 f) (first_same e))
changes-cut ((n, None) ∷ xs) ((m, Some d) ∷ ys) s t hs ks p q e =
    absurd (other_byte (codes "-") (codes "+") (λ f. numbers_test 45 43 f) (first_same e))
changes-cut ((n, None) ∷ xs) ((m, None) ∷ ys) s t hs ks p q e =
    let name : n ≡ m = shown-once n m hs.0 ks.0 (ap (λ lines. word_at 1 (line_at 0 lines)) e) in
    let rest = changes-cut xs ys s t hs.1 ks.1 p q (ap (drop 1) e) in
    (ap₂ (λ change changes. change ∷ changes) (ap (λ a. (a, None)) name) rest.0, rest.1)
changes-cut ((n, Some d) ∷ xs) ((m, Some f) ∷ ys) s t hs ks p q e =
    let name : n ≡ m = shown-once n m hs.0 ks.0 (ap (λ lines. word_at 1 (line_at 0 lines)) e) in
    let value : d.value ≡ f.value = quoted-once d.value f.value (ap (λ lines. word_at 2 (line_at 0 lines)) e) in
    let behind_key : (over words_of_meta (map.entries d.meta) ++ flat_map words_of_change xs) ++ s ≡ (over words_of_meta (map.entries f.meta) ++ flat_map words_of_change ys) ++ t = ap (drop 1) e in
    let there = sym (append_assoc (over words_of_meta (map.entries d.meta)) (flat_map words_of_change xs) s) ∙ (behind_key ∙ append_assoc (over words_of_meta (map.entries f.meta)) (flat_map words_of_change ys) t) in
    let metas = metas-cut (map.entries d.meta) (map.entries f.meta) (flat_map words_of_change xs ++ s) (flat_map words_of_change ys ++ t) (no_meta xs s p) (no_meta ys t q) there in
    let rest = changes-cut xs ys s t hs.1 ks.1 p q metas.1 in
    (ap₂ (λ change changes. change ∷ changes) (same_key n m d f name value (map.same_entries_map d.meta f.meta metas.0)) rest.0, rest.1)

all_at : {A : Type 0} (P : A → Type 0) (xs : List A) (i : ℕ) (x : A) → AllByRecursion P xs → slice_get xs i ≡ Some x
    → P x
all_at P [] zero x all there = absurd cc
all_at P [] (suc i) x all there = absurd cc
all_at P (y ∷ xs) zero x all there = subst P (some_is y x there) all.0
all_at P (y ∷ xs) (suc i) x all there = all_at P xs i x all.1 there

point_there : (mounts : List Mount) (i : ℕ) (mount : Mount) (touched : List ℕ) → slice_get mounts i ≡ Some mount
    → points_of mounts (i ∷ touched) ≡ mount.at ∷ points_of mounts touched
point_there mounts i mount touched there =
    ap (λ found. cons_option (option_map (λ m. m.at) found) (points_of mounts touched)) there

names_of_points : (mounts : List Mount) (touched : List ℕ) → AllByRecursion (λ m. IsName m.at) mounts
    → AllByRecursion (λ mount. mount < length mounts) touched → AllByRecursion IsName (points_of mounts touched)
names_of_points mounts [] names within = tt
names_of_points mounts (i ∷ touched) names within =
    let found = there_is mounts i within.0 in
    subst (λ points. AllByRecursion IsName points) (sym (point_there mounts i found.0 touched found.1)) (all_at (λ m. IsName m.at) mounts i found.0 names found.1, names_of_points mounts touched names within.1)

touched-once : (mounts : List Mount) (ts us : List ℕ) → AreDistinct (over (λ mount. mount.at) mounts)
    → AllByRecursion (λ mount. mount < length mounts) ts → AllByRecursion (λ mount. mount < length mounts) us
    → points_of mounts ts ≡ points_of mounts us → ts ≡ us
touched-once mounts [] [] apart hs ks e = refl
touched-once mounts [] (u ∷ us) apart hs ks e =
    let found = there_is mounts u ks.0 in let there = e ∙ point_there mounts u found.0 us found.1 in absurd cc
touched-once mounts (t ∷ ts) [] apart hs ks e =
    let found = there_is mounts t hs.0 in let there = sym (point_there mounts t found.0 ts found.1) ∙ e in absurd cc
touched-once mounts (t ∷ ts) (u ∷ us) apart hs ks e =
    let one = there_is mounts t hs.0 in
    let other = there_is mounts u ks.0 in
    let there = sym (point_there mounts t one.0 ts one.1) ∙ (e ∙ point_there mounts u other.0 us other.1) in
    let point : one.0.at ≡ other.0.at = cc in
    let at : slice_get (over (λ mount. mount.at) mounts) t ≡ Some other.0.at = slice_get-map (λ mount. mount.at) mounts t ∙ (ap (option_map (λ mount. mount.at)) one.1 ∙ ap Some point) in
    let same : t ≡ u = apart t u other.0.at at (slice_get-map (λ mount. mount.at) mounts u ∙ ap (option_map (λ mount. mount.at)) other.1) in
    ap₂ (λ x xs. x ∷ xs) same (touched-once mounts ts us apart hs.1 ks.1 cc)

number_at : (sessions : List ℕ) (i : ℕ) → AllByRecursion IsNumber sessions → i < length sessions
    → IsNumber (slice_index sessions i)
number_at sessions i numbers within =
    let found = there_is sessions i within in
    subst IsNumber (sym (get_or_from_slice_get sessions i found.0 0 found.1)) (all_at IsNumber sessions i found.0 numbers found.1)

-- which handle it was, from the number of its session
handle-once : (sessions : List ℕ) (h k : ℕ) → AreDistinct sessions → AllByRecursion IsNumber sessions → 1 ≤ h
    → h ≤ length sessions → 1 ≤ k → k ≤ length sessions
    → decimal (session_of sessions h) ≡ decimal (session_of sessions k) → h ≡ k
handle-once sessions h k apart numbers h_some h_within k_some k_within e =
    let one = there_is sessions (h - 1) (omega arith) in
    let other = there_is sessions (k - 1) (omega arith) in
    let session = decimal_injective (session_of sessions h) (session_of sessions k) (number_at sessions (h - 1) numbers (omega arith)) (number_at sessions (k - 1) numbers (omega arith)) e in
    let same : one.0 ≡ other.0 = sym (get_or_from_slice_get sessions (h - 1) one.0 0 one.1) ∙ (session ∙ get_or_from_slice_get sessions (k - 1) other.0 0 other.1) in
    let places : h - 1 ≡ k - 1 = apart (h - 1) (k - 1) other.0 (one.1 ∙ ap Some same) other.1 in
    omega arith

no_change : (mounts : List Mount) (sessions : List ℕ) (number : ℕ) (commits : List Commit)
    → NoChange (words_of_commits mounts sessions number commits ++ (codes "end", []) ∷ [])
no_change mounts sessions number [] =
    (other_byte (codes "end") (codes "+") (λ e. numbers_test 101 43 e), other_byte (codes "end") (codes "-") (λ e. numbers_test 101 45 e), other_byte (codes "end") (codes ".") (λ e. numbers_test 101 46 e))
no_change mounts sessions number (commit ∷ commits) =
    (other_byte (codes "commit") (codes "+") (λ e. numbers_test 99 43 e), other_byte (codes "commit") (codes "-") (λ e. numbers_test 99 45 e), other_byte (codes "commit") (codes ".") (λ e. numbers_test 99 46 e))

same_commit : (c d : Commit) → c.handle ≡ d.handle → c.touched ≡ d.touched → c.changes ≡ d.changes → c ≡ d
same_commit c d handle touched changes = λ i. record { handle = handle i; touched = touched i; changes = changes i }

pub commits-once : (mounts : List Mount) (sessions : List ℕ) → AreNamed mounts sessions
    → (number : ℕ) (cs ds : List Commit) → AllByRecursion (IsCommitOf mounts sessions) cs
    → AllByRecursion (IsCommitOf mounts sessions) ds
    → words_of_commits mounts sessions number cs ++ (codes "end", []) ∷ []
    ≡ words_of_commits mounts sessions number ds ++ (codes "end", []) ∷ []
    → cs ≡ ds
commits-once mounts sessions named number [] [] hs ks e = refl
commits-once mounts sessions named number [] (d ∷ ds) hs ks e =
    absurd (other_byte (codes "end") (codes "commit") (λ f. numbers_test 101 99 f) (first_same e))
commits-once mounts sessions named number (c ∷ cs) [] hs ks e =
    absurd (other_byte (codes "commit") (codes "end") (λ f. numbers_test 99 101 f) (first_same e))
commits-once mounts sessions named number (c ∷ cs) (d ∷ ds) hs ks e =
    let last = (codes "end", []) ∷ [] in
    let handle = handle-once sessions c.handle d.handle named.apart named.numbers hs.0.some hs.0.by ks.0.some ks.0.by (ap (λ lines. word_at 3 (line_at 0 lines)) e) in
    let points = names-once (points_of mounts c.touched) (points_of mounts d.touched) (names_of_points mounts c.touched named.names hs.0.touched) (names_of_points mounts d.touched named.names ks.0.touched) (ap (λ lines. (line_at 1 lines).1) e) in
    let touched = touched-once mounts c.touched d.touched named.points hs.0.touched ks.0.touched points in
    let behind_head : (flat_map words_of_change c.changes ++ words_of_commits mounts sessions (number + 1) cs) ++ last ≡ (flat_map words_of_change d.changes ++ words_of_commits mounts sessions (number + 1) ds) ++ last = ap (drop 2) e in
    let there = sym (append_assoc (flat_map words_of_change c.changes) (words_of_commits mounts sessions (number + 1) cs) last) ∙ (behind_head ∙ append_assoc (flat_map words_of_change d.changes) (words_of_commits mounts sessions (number + 1) ds) last) in
    let changes = changes-cut c.changes d.changes (words_of_commits mounts sessions (number + 1) cs ++ last) (words_of_commits mounts sessions (number + 1) ds ++ last) hs.0.names ks.0.names (no_change mounts sessions (number + 1) cs) (no_change mounts sessions (number + 1) ds) there in
    ap₂ (λ x xs. x ∷ xs) (same_commit c d handle touched changes.0) (commits-once mounts sessions named (number + 1) cs ds hs.1 ks.1 changes.1)
