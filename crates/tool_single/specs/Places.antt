-- The place that is told of a journal that isn't whole. No crash of this store leaves one. (This project's own. After
-- the longest viable prefix, at which a parser tells an error.)
use Rattle.std.specs.Prelude.{◌≡◌, ◌≢◌, ℕ, ◌+◌, ◌<◌, ◌≤◌, true, false, List, [], ◌∷◌, ◌++◌, length, drop, slice_index, Option, Some, None, All}
use Rattle.std.specs.List.{flat_map}
use Rattle.std.specs.List.Sorted.{IsStrictlySortedBy}
use Rattle.std.specs.Ordering.{nat_cmp}
use Rattle.std.specs.Cmp.Lexicographic.{slice_cmp}
use Rattle.journal_codec.specs.Entry.{journal_name, journal2_name, most_files, IsEntry, spelled}
use Rattle.journal_codec.specs.Forms.{followed, uncounted, spelled_on}
use Rattle.journal_codec.specs.Header.{version, longest_header, IsHeaderName, IsHeader, sized_name, spelled_header}
use Rattle.journal_codec.specs.Listed.{is_listed, are_listed}
use Rattle.journal_codec.specs.Places.{Begun, CanBegin, IsFront, IsPlace, bytes_of, passed}
use Rattle.journal_codec.specs.declared.files.FileText.{FileText}
use Rattle.journal_lists.specs.Grammar.{most_entries, last_place, head_size, size_of, body_of, rest_of, IsWhole}
use Rattle.journal_lists.specs.Heads.{head_start, front, version_of, header_size, header_of}
use Rattle.journal_lists.specs.Journals.{IsHeaded}
use Rattle.journal_lists.specs.Lists.{IsOpenAt}
use Rattle.journal_lists.specs.Rules.{rule_of}
use Rattle.kdb_outside.specs.Images.{Image}

-- ---- in a body, of a list behind a header that names some files, or without one

-- some bytes are the body of this entry. Its first byte tells by its size whether another gate follows, and counts
-- without that; behind a header one does, and the header names the entry's files
abbrev pub IsBody : Option (List (List ℕ)) → List ℕ → List FileText → Type 0
IsBody None body files = IsEntry files × (spelled files ≡ uncounted body)
IsBody (Some names) body files = IsEntry files × (are_listed names files ≡ true) × (spelled_on files ≡ body)

-- behind the beginning of an entry, whose files are of these, the name of another file stands at this place that isn't
pub record IsStrangeName (names : List (List ℕ)) (body : List ℕ) (at : ℕ) : Type 0 where
  pub count : ℕ
  pub files : List FileText
  pub name : List ℕ
  pub can_begin : CanBegin (Begun count files (Some name))
  pub front : IsFront (bytes_of (Begun count files (Some name))) body
  pub listed : are_listed names files ≡ true
  pub strange : is_listed names name ≡ false
  pub at_is : at ≡ length (bytes_of (Begun count files None)) + 1

-- behind a header a body goes wrong at its count, where that says that no gate follows; at the name of a file that the
-- header doesn't name; or as each body does, where no such name stands before
pub data IsWrongListed (names : List (List ℕ)) (body : List ℕ) (at : ℕ) : Type 0 where
  LastOne : followed body ≡ false → at ≡ 0 → IsWrongListed names body at
  StrangeName : followed body ≡ true → IsStrangeName names (uncounted body) at → IsWrongListed names body at
  WrongBody : followed body ≡ true → ((other : ℕ) → ¬ IsStrangeName names (uncounted body) other)
      → IsPlace (uncounted body) at → IsWrongListed names body at

-- the bytes of a body go wrong at this place
abbrev pub IsWrongAt : Option (List (List ℕ)) → List ℕ → ℕ → Type 0
IsWrongAt None body at = IsPlace (uncounted body) at
IsWrongAt (Some names) body at = IsWrongListed names body at

-- ---- in a list

-- an entry at this place, with so many before it, keeps the limits of a list
pub record IsInLimits (number place : ℕ) (tail : List ℕ) : Type 0 where
  pub few : number < most_entries
  pub within : place + head_size + size_of tail ≤ last_place

-- what stands behind the gate of an open entry is no whole one, by the length of its body, which stands first, and the
-- bytes behind that up to it. It is one entry too many, or it ends too late: without a header that is told at the front
-- of its body, and behind one at its length; or the bytes go wrong, told at the place where they do; or they are an
-- entry's, but fewer than the length, told at their end. Without a header these places count in the body, and behind
-- one from the file's first byte
pub data IsBrokenAt (header : Option (List (List ℕ))) (number place : ℕ) (tail : List ℕ) (at : ℕ) : Type 0 where
  TooMany : most_entries ≤ number → at ≡ (rule_of header).late place → IsBrokenAt header number place tail at
  TooLate : last_place < place + head_size + size_of tail → at ≡ (rule_of header).late place
      → IsBrokenAt header number place tail at
  WrongField : IsInLimits number place tail → (there : ℕ) → IsWrongAt header (body_of tail) there
      → at ≡ (rule_of header).told place there → IsBrokenAt header number place tail at
  CutShort : IsInLimits number place tail → (files : List FileText) → IsBody header (body_of tail) files
      → length (body_of tail) ≢ size_of tail
      → at ≡ (rule_of header).told place (length (body_of tail)) → IsBrokenAt header number place tail at

-- from a gate on: behind these open entries, each of which is whole and followed by the next, stands an open one that
-- is broken so
abbrev pub BreaksBehind : Option (List (List ℕ)) → ℕ → ℕ → List ℕ → List (List FileText) → ℕ → Type 0
BreaksBehind header number place c [] at = IsOpenAt c × IsBrokenAt header number place (drop 1 c) at
BreaksBehind header number place c (entry ∷ entries) at =
    IsOpenAt c × IsWhole (rule_of header) number place (drop 1 c) entry × (followed (body_of (drop 1 c)) ≡ true)
    × BreaksBehind header (number + 1) (place + head_size + size_of (drop 1 c)) (rest_of (drop 1 c)) entries at

-- the first open entry of a list that isn't whole is broken so
abbrev pub IsListBadAt : Option (List (List ℕ)) → List ℕ → ℕ → Type 0
IsListBadAt header list at = (entries : List (List FileText)) × BreaksBehind header 0 0 list entries at

-- ---- in a header

-- names that a header can begin with that has so many
pub record AreFirstNames (count : ℕ) (names : List (List ℕ)) : Type 0 where
  pub not_empty : 1 ≤ count
  pub not_many : count ≤ most_files
  pub within : length names ≤ count
  pub ascending : IsStrictlySortedBy (slice_cmp nat_cmp) names
  pub each : All IsHeaderName names

-- the bytes of a header go wrong: no count of 1 to 64 stands first; or behind names that it can begin with stands none
-- that can come next, told where that would stand behind its length; or bytes are left behind all its names, told at
-- their front
pub data IsWrongHeader (header : List ℕ) (at : ℕ) : Type 0 where
  NoCount : (1 ≤ slice_index header 0 → slice_index header 0 ≤ most_files → ⊥) → at ≡ 0 → IsWrongHeader header at
  NoName : (count : ℕ) (names : List (List ℕ)) (rest : List ℕ) → AreFirstNames count names → length names < count
      → header ≡ (count ∷ flat_map sized_name names) ++ rest
      → ((name : List ℕ) → AreFirstNames count (names ++ name ∷ []) → ¬ IsFront (sized_name name) rest)
      → at ≡ length (count ∷ flat_map sized_name names) + passed 1 rest → IsWrongHeader header at
  BytesLeft : (names : List (List ℕ)) (rest : List ℕ) → IsHeader names → rest ≢ []
      → header ≡ spelled_header names ++ rest
      → at ≡ length (spelled_header names) → IsWrongHeader header at

-- ---- in a journal

-- what stands behind the header gate isn't a whole header: its length is too much, told there; or its bytes go wrong,
-- told where they do; or they are a header's, but fewer than the length, told at their end
pub data IsHeadBadAt (c : List ℕ) (at : ℕ) : Type 0 where
  TooLong : longest_header < header_size c → at ≡ 2 → IsHeadBadAt c at
  WrongHeader : header_size c ≤ longest_header → (there : ℕ) → IsWrongHeader (header_of c) there
      → at ≡ head_start + there → IsHeadBadAt c at
  HeaderCut : header_size c ≤ longest_header → (names : List (List ℕ)) → IsHeader names
      → spelled_header names ≡ header_of c → length (header_of c) ≢ header_size c
      → at ≡ head_start + length (header_of c) → IsHeadBadAt c at

-- the header gate is open before this version, and the header isn't whole; or the list behind the header isn't
pub data IsJournalBadAt (c : List ℕ) (at : ℕ) : Type 0 where
  OfHeader : IsHeaded c → version_of c ≡ version → IsHeadBadAt c at → IsJournalBadAt c at
  OfList : (names : List (List ℕ)) → IsHeader names → (list : List ℕ) → c ≡ front names ++ list
      → IsListBadAt (Some names) list at → IsJournalBadAt c at

-- the first open entry of `journal` that isn't whole, if there is one
abbrev pub IsFormerBadAt : Image → ℕ → Type 0
IsFormerBadAt image at = IsListBadAt None (image journal_name) at

-- one of the journals isn't whole, `journal` before `journal2`
pub data IsBadAt (image : Image) (at : ℕ) : Type 0 where
  OfFormer : IsFormerBadAt image at → IsBadAt image at
  OfJournal : ((other : ℕ) → ¬ IsFormerBadAt image other) → IsJournalBadAt (image journal2_name) at → IsBadAt image at

-- `journal` is whole, and the header gate of `journal2` is open before another version than this program's
pub record HasOtherVersion (image : Image) (found : ℕ) : Type 0 where
  pub former : (at : ℕ) → ¬ IsFormerBadAt image at
  pub headed : IsHeaded (image journal2_name)
  pub version_is : version_of (image journal2_name) ≡ found
  pub other : found ≢ version
