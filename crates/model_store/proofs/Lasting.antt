-- What lasts over a legal history of a sound store: the file of each good mount can be stored as the present map has
-- it, and no text is too long.
use Rattle.std.proofs.Common.{◌≡◌, ℕ, Bool, true, false, List, [], ◌∷◌, Option, Some, None, refl, sym, ap, subst, ◌∙◌}
use Rattle.std.specs.FinMap as map
use Rattle.std.specs.FinMap.{find}
use Rattle.std.specs.Option.{unwrap_or}
use Rattle.general_words.proofs.Lists.{some_is}
use Rattle.general_words.proofs.Tests.{true_is}
use Rattle.model_names.specs.Order.{name_cmp}
use Rattle.model_maps.specs.Entry.{Entry}
use Rattle.model_maps.specs.KeyMap.{KeyMap}
use Rattle.model_history.specs.Changes.{changed_by}
use Rattle.model_history.specs.History.{Commit, replay, touches}
use Rattle.model_history.proofs.ChangeLemmas.{get-changed_by}
use Rattle.mounted_files.specs.Setting.{long_text}
use Rattle.mounted_files.specs.Short.{AreShort}
use Rattle.model_store.specs.Fitting.{Fits, IsStorableAt}
use Rattle.model_store.specs.Legal.{IsLegalCommit, AreLegal}
use Rattle.model_store.specs.Sound.{IsSound}
use Rattle.model_store.specs.Store.{Store, Formats, points_of}
use Rattle.model_store.proofs.Histories.{untouched}
use Rattle.model_store.proofs.Members.{from_all}
use Rattle.set_split.specs.Parts.{owned_by}

-- what can be stored goes by what is wanted for that mount
pub storable-alike : (formats : Formats) (store : Store) (m : ℕ) (wanted other : KeyMap) → wanted ≡ other
    → IsStorableAt formats store (λ n. wanted) m → IsStorableAt formats store (λ n. other) m
storable-alike formats store m wanted other same can =
    subst (λ (keys : KeyMap). IsStorableAt formats store (λ n. keys) m) same can

module _ (formats : Formats) (store : Store) where
  abbrev of_map : KeyMap → ℕ → KeyMap
  of_map keys m = owned_by (points_of store) m keys

  -- ---- files

  storable-more : (before : KeyMap) (commits : List Commit) (m : ℕ) → AreLegal formats store before commits
      → IsStorableAt formats store (of_map before) m → IsStorableAt formats store (of_map (replay before commits)) m
  storable-more before [] m legal can = can
  storable-more before (commit ∷ commits) m legal can =
      storable-more (changed_by commit.changes before) commits m legal.1 (by (touches m commit) refl)
    where
      by : (b : Bool) → touches m commit ≡ b → IsStorableAt formats store (of_map (changed_by commit.changes before)) m
      by true on =
          let fits = from_all (Fits formats store (of_map (changed_by commit.changes before))) commit.touched m legal.0.fits on in fits.storable
      by false off =
          storable-alike formats store m (of_map before m) (of_map (changed_by commit.changes before) m) (sym (untouched formats store before before commit m legal.0 off)) can

  -- what a good mount has in the present map can be stored
  pub storable-present : IsSound formats store → (history : List Commit) (m : ℕ)
      → AreLegal formats store store.start history → store.is_bad m ≡ false
      → IsStorableAt formats store (of_map (replay store.start history)) m
  storable-present sound history m legal good = storable-more store.start history m legal (sound.storable m good)

  -- ---- texts

  short-after : (before : KeyMap) (commit : Commit) → IsLegalCommit formats store before commit → AreShort before
      → AreShort (changed_by commit.changes before)
  short-after before commit legal short q entry found =
      by (find name_cmp q commit.changes) refl (sym (get-changed_by commit.changes before q (true_is _ legal.names)) ∙ found)
    where
      by : (o : Option (Option Entry)) → find name_cmp q commit.changes ≡ o
          → unwrap_or o (map.get before q) ≡ Some entry → long_text entry ≡ None
      by None is there = short q entry there
      by (Some None) is there = absurd cc
      by (Some (Some new)) is there = ap long_text (sym (some_is new entry there)) ∙ legal.short q new is

  short-more : (before : KeyMap) (commits : List Commit) → AreLegal formats store before commits → AreShort before
      → AreShort (replay before commits)
  short-more before [] legal short = short
  short-more before (commit ∷ commits) legal short =
      short-more (changed_by commit.changes before) commits legal.1 (short-after before commit legal.0 short)

  -- the present map has no text that is too long
  pub short-present : IsSound formats store → (history : List Commit) → AreLegal formats store store.start history
      → AreShort (replay store.start history)
  short-present sound history legal = short-more store.start history legal sound.short
