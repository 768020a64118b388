-- The journals that a crash may leave begin with the bytes and the list of a journal, kept by its steps.
use Rattle.std.proofs.Common.{◌≡◌, ℕ, ◌+◌, ◌≤◌, ◌<◌, Bool, true, false, List, [], ◌∷◌, ◌++◌, length, Option, Result, Ok, refl, sym, ap, ap₂, subst, ◌∙◌, arith, append_assoc, length-append}
use Rattle.std.specs.Prelude.{nat_le, nat_lt}
use Rattle.std.proofs.lemmas.Bool.{and_parts, leb-true, ltb-true}
use Rattle.general_words.proofs.Lists.{all_append, all_back}
use Rattle.kdb_outside.specs.declared.disks.Disk.{Ghosts}
use Rattle.kdb_outside.specs.declared.faults.Failed.{Failed}
use Rattle.kdb_outside.specs.Files.{written}
use Rattle.kdb_outside.specs.Frames.{GoesOn}
use Rattle.kdb_outside.specs.Images.{Image, Only, IsTornWrite}
use Rattle.journal_codec.specs.declared.files.FileText.{FileText}
use Rattle.journal_codec.specs.Entry.{journal2_name, IsEntry}
use Rattle.journal_codec.specs.Forms.{spelled_on, behind_gate}
use Rattle.journal_steps.specs.JournalBytes.{IsClosed}
use Rattle.journal_steps.specs.Steps.{WritesThrough}
use Rattle.journal_steps.proofs.GateBytes.{IsClosed-behind, IsClosed-written}
use Rattle.journal_lists.specs.Grammar.{most_entries, last_place, head_size}
use Rattle.journal_lists.specs.Heads.{head_bytes, front, front_size}
use Rattle.journal_lists.specs.Lists.{list_bytes, Fits}
use Rattle.journal_lists.specs.Rules.{listed, IsAllowed}
use Rattle.journal_lists.proofs.Gates.{list_bytes-append, bytes_with}
use Rattle.journal_lists.proofs.Heads.{length_front, front_short, header_bytes_is}
use Rattle.intent_journal.specs.Journal.{IsBehind, has_room, StandsBehind, IsList, IsHeaderBytes, IsSound}
use Rattle.intent_journal.specs.States.{IsListed, IsInDoubt, IsBare, IsHeadInDoubt, HasBodyBehind}
use Rattle.intent_journal.specs.Steps.{HasOpened}
use Rattle.intent_journal.proofs.Passages.{torn_over, written_over, same_parts, written_closed}

-- each journal that a crash may leave begins with so many bytes and a list
abbrev pub Begins : (List ℕ → List ℕ → Type 0) → ℕ → List (List FileText) → Bool → Type 0
Begins leaves start entries in_doubt =
    (c : List ℕ) → leaves journal2_name c → StandsBehind start entries (IsBehind in_doubt) c

-- whatever stands behind the list, it does so also in doubt
pub begins_any : (b : Bool) (leaves : List ℕ → List ℕ → Type 0) (start : ℕ) (entries : List (List FileText))
    → Begins leaves start entries b → Begins leaves start entries true
begins_any b leaves start entries begins c is =
    let there = begins c is in record { head = there.head; rest = there.rest; size = there.size; is = there.is; behind = tt }

-- no bytes and no list stand before every journal
pub begins_none : (leaves : List ℕ → List ℕ → Type 0) → Begins leaves 0 [] true
begins_none leaves c is = record { head = []; rest = c; size = refl; is = refl; behind = tt }

-- the gate behind the list is there, or the file ends before it
pub gate_place : (start : ℕ) (entries : List (List FileText)) (c : List ℕ)
    → StandsBehind start entries (IsBehind true) c → start + length (list_bytes entries) ≤ length c
gate_place start entries c there =
    omega (arith, ap length there.is, there.size, length-append there.head (list_bytes entries ++ there.rest), length-append (list_bytes entries) there.rest)

pub gate_there : (start : ℕ) (entries : List (List FileText)) (c : List ℕ)
    → StandsBehind start entries (IsBehind false) c → start + length (list_bytes entries) < length c
gate_there start entries c there =
    omega (arith, ap length there.is, there.size, length-append there.head (list_bytes entries ++ there.rest), length-append (list_bytes entries) there.rest, there.behind.there)

-- a body that was written behind the closed gate
pub body_behind : (new : List ℕ → List ℕ → Type 0) (start : ℕ) (entries : List (List FileText)) (entry : List FileText)
    (seen bytes : List ℕ) (place : ℕ)
    → place ≡ start + length (list_bytes entries) + 1 → bytes ≡ behind_gate entry ++ 0 ∷ []
    → StandsBehind start entries IsClosed seen
    → Only (written seen place bytes) (new journal2_name) → HasBodyBehind new start entries entry
body_behind new start entries entry seen bytes place placed encoded there only c is =
    let size = there.size in
    let closed = written_closed bytes there.rest there.behind in
    record {
      head = there.head;
      more = closed.0;
      size = size;
      is =
          only c is ∙ ap (λ (s : List ℕ). written s place bytes) there.is
          ∙ written_over there.head entries there.rest bytes place 1 (omega (arith, size))
          ∙ ap (λ (l : List ℕ). there.head ++ (list_bytes entries ++ l))
          (closed.1 ∙ ap (λ (l : List ℕ). 0 ∷ (l ++ closed.0)) encoded ∙ ap (λ (l : List ℕ). 0 ∷ l) (append_assoc (behind_gate entry) (0 ∷ []) closed.0));
    }

module _ {D : Type 0} (g : Ghosts D) (old new : D) (r : Result Unit Failed) (tells : g.tells old ≡ true) (start : ℕ) (entries : List (List FileText)) (place : ℕ) where
  -- what a write behind the list leaves
  begins_step : (bytes : List ℕ) (at : ℕ) (before after : Bool) → place ≡ start + length (list_bytes entries) + at
      → Begins (g.may_leave old) start entries before
      → WritesThrough g old new r journal2_name place bytes
      → ((rest now : List ℕ) → IsTornWrite at bytes rest now → IsBehind before rest → IsBehind after now)
      → Begins (g.may_leave new) start entries after
  begins_step bytes at before after placed begins writes passes c is =
      let was = writes.images.this c is in
      let there = begins was.0 was.1 in
      let size = there.size in
      let torn = torn_over there.head entries there.rest bytes place at (omega (arith, size)) c (subst (λ (f : List ℕ). IsTornWrite place bytes f c) there.is was.2) in
      record {
        head = there.head;
        rest = torn.0;
        size = size;
        is = torn.1;
        behind = passes there.rest torn.0 torn.2 there.behind;
      }

  -- a write behind the closed gate
  pub begins_behind : (bytes : List ℕ) → place ≡ start + length (list_bytes entries) + 1
      → Begins (g.may_leave old) start entries false → WritesThrough g old new r journal2_name place bytes
      → Begins (g.may_leave new) start entries false
  begins_behind bytes placed begins writes =
      begins_step bytes 1 false false placed begins writes (IsClosed-behind bytes)

  -- a write at the gate
  pub begins_torn : (bytes : List ℕ) → place ≡ start + length (list_bytes entries)
      → Begins (g.may_leave old) start entries true → WritesThrough g old new r journal2_name place bytes
      → Begins (g.may_leave new) start entries true
  begins_torn bytes placed begins writes =
      begins_step bytes 0 true true (omega arith) begins writes (λ rest now torn any. tt)

-- the gate was closed
pub begins_closed : {D : Type 0} (g : Ghosts D) (old new : D) (tells : g.tells old ≡ true) (start : ℕ)
    (entries : List (List FileText)) (place : ℕ) → place ≡ start + length (list_bytes entries)
    → Begins (g.may_leave old) start entries true → WritesThrough g old new (Ok tt) journal2_name place (0 ∷ [])
    → Begins (g.may_leave new) start entries false
begins_closed g old new tells start entries place placed begins writes c is =
    let there = begins (g.seen old journal2_name) (g.read_is_image old tells journal2_name) in
    let size = there.size in
    record {
      head = there.head;
      rest = written there.rest 0 (0 ∷ []);
      size = size;
      is = writes.durable c is ∙ ap (λ (s : List ℕ). written s place (0 ∷ [])) there.is ∙ written_over there.head entries there.rest (0 ∷ []) place 0 (omega (arith, size));
      behind = IsClosed-written there.rest;
    }

-- the gate was opened on a body
pub begins_opened : {D : Type 0} (g : Ghosts D) (old new : D) (tells : g.tells old ≡ true) (start : ℕ)
    (entries : List (List FileText)) (entry : List FileText) (place : ℕ)
    → place ≡ start + length (list_bytes entries) → HasBodyBehind (g.may_leave old) start entries entry
    → WritesThrough g old new (Ok tt) journal2_name place (1 ∷ [])
    → Begins (g.may_leave new) start (entries ++ entry ∷ []) false
begins_opened g old new tells start entries entry place placed body writes c is =
    let holds = body (g.seen old journal2_name) (g.read_is_image old tells journal2_name) in
    let size = holds.size in
    record {
      head = holds.head;
      rest = 0 ∷ holds.more;
      size = size;
      is = writes.durable c is ∙ ap (λ (s : List ℕ). written s place (1 ∷ [])) holds.is
          ∙ written_over holds.head entries (0 ∷ (behind_gate entry ++ (0 ∷ holds.more))) (1 ∷ []) place 0 (omega (arith, size))
          ∙ ap (λ (l : List ℕ). holds.head ++ l) (sym (bytes_with entries entry (0 ∷ holds.more)));
      behind = record { there = omega arith; gate_is = refl };
    }

-- the header gate was opened on a head
begins_headed : (leaves : List ℕ → List ℕ → Type 0) (header : List ℕ) → IsHeaderBytes header → HasOpened header leaves
    → Begins leaves (length header) [] false
begins_headed leaves header is opened c left =
    let names = is.0 in
    let there = opened c left in
    let bytes : header ≡ head_bytes names ++ 0 ∷ [] = is.2 ∙ header_bytes_is names in
    record {
      head = 1 ∷ head_bytes names;
      rest = 0 ∷ there.0;
      size = omega (arith, ap length bytes, length-append (head_bytes names) (0 ∷ []));
      is = there.1 ∙ ap (λ (l : List ℕ). 1 ∷ (l ++ there.0)) bytes ∙ ap (λ (l : List ℕ). 1 ∷ l) (append_assoc (head_bytes names) (0 ∷ []) there.0);
      behind = record { there = omega arith; gate_is = refl };
    }

-- where the gate behind a list with one entry more stands
pub place_after : (entries : List (List FileText)) (entry : List FileText)
    → length (list_bytes (entries ++ entry ∷ [])) ≡ length (list_bytes entries) + head_size + length (spelled_on entry)
place_after entries entry =
    let sized = ap length (list_bytes-append entries (entry ∷ [])) in
    let joined = length-append (list_bytes entries) (list_bytes (entry ∷ [])) in
    let alone = length-append (behind_gate entry) [] in
    omega arith

pub no_list : IsList []
no_list = record { few = omega arith; within = omega arith; each = tt }

-- a list with room for an entry may get it
pub list_more : (entries : List (List FileText)) (entry : List FileText) (size : ℕ) → IsList entries → IsEntry entry
    → size ≡ length (spelled_on entry) → has_room entries size ≡ true
    → IsList (entries ++ entry ∷ [])
list_more entries entry size fits is sized room =
    let parts = and_parts (nat_lt (length entries) most_entries) (nat_le (length (list_bytes entries) + head_size + size) last_place) room in
    let few = ltb-true (length entries) most_entries parts.0 in
    let within = leb-true (length (list_bytes entries) + head_size + size) last_place parts.1 in
    record {
      few = omega (arith, few, length-append entries (entry ∷ []));
      within = omega (arith, within, place_after entries entry);
      each = all_append IsEntry entries (entry ∷ []) fits.each (is, tt);
    }

-- and it fits where the header names the entry's files
pub fits_more : (names : List (List ℕ)) (entries : List (List FileText)) (entry : List FileText)
    → Fits (listed names) entries → IsAllowed (listed names) entry → IsList (entries ++ entry ∷ [])
    → Fits (listed names) (entries ++ entry ∷ [])
fits_more names entries entry fits allowed list = record {
  few = list.few;
  within = list.within;
  each = all_append (IsAllowed (listed names)) entries (entry ∷ []) fits.each (allowed, tt);
}

-- the room that a list needs for its last entry
pub record HasPlace (entries : List (List FileText)) (entry : List FileText) : Type 0 where
  pub is : IsEntry entry
  pub few : length entries < most_entries
  pub within : length (list_bytes entries) + head_size + length (spelled_on entry) ≤ last_place

pub place_of : (entries : List (List FileText)) (entry : List FileText) → IsList (entries ++ entry ∷ [])
    → HasPlace entries entry
place_of entries entry fits = record {
  is = (all_back IsEntry entries (entry ∷ []) fits.each).0;
  few = omega (arith, fits.few, length-append entries (entry ∷ []));
  within = omega (arith, fits.within, place_after entries entry);
}

-- ---- what is always true of a journal, kept by its steps

-- a journal without a header has no bytes before its next gate
pub bare_place : (tells : Bool) (leaves : List ℕ → List ℕ → Type 0) (name : List ℕ) (place : ℕ) (headed : Bool)
    (start : ℕ) (list : List (List FileText)) (in_doubt : Bool) (size : ℕ)
    → IsSound tells leaves name place headed start list in_doubt size → headed ≡ false → place ≡ 0
bare_place tells leaves name place headed start list in_doubt size sound is_bare =
    let bare = sound.bare is_bare in
    sound.placed ∙ ap₂ (λ (n : ℕ) (l : List (List FileText)). n + length (list_bytes l)) bare.0 bare.1

-- what is written into the journal's file is written into that of its name
pub named_writes : {D : Type 0} (g : Ghosts D) (old new : D) (r : Result Unit Failed) (name : List ℕ) (at : ℕ)
    (bytes : List ℕ) → name ≡ journal2_name
    → WritesThrough g old new r name at bytes → WritesThrough g old new r journal2_name at bytes
named_writes g old new r name at bytes named writes =
    subst (λ (n : List ℕ). WritesThrough g old new r n at bytes) named writes

-- only files that the list may name were left with other images
pub sound_kept : (tells now : Bool) (old new : List ℕ → List ℕ → Type 0) (name : List ℕ) (place : ℕ) (headed : Bool)
    (start : ℕ) (list : List (List FileText)) (in_doubt : Bool) (size : ℕ)
    → IsSound tells old name place headed start list in_doubt size → now ≡ tells
    → (tells ≡ true → (c : List ℕ) → new journal2_name c → old journal2_name c)
    → IsSound now new name place headed start list in_doubt size
sound_kept tells now old new name place headed start list in_doubt size sound same kept = record {
  named = sound.named;
  placed = sound.placed;
  short = sound.short;
  bare = sound.bare;
  fits = sound.fits;
  spare = sound.spare;
  journal = λ told c is. let then_too = sym same ∙ told in sound.journal then_too c (kept then_too c is);
}

-- the list is empty, and the gate before it in doubt
pub sound_emptied : (tells : Bool) (leaves : List ℕ → List ℕ → Type 0) (name : List ℕ) (place : ℕ) (headed : Bool)
    (start : ℕ) (list none : List (List FileText)) (in_doubt now : Bool) (size room : ℕ)
    → IsSound tells leaves name place headed start list in_doubt size → headed ≡ true → none ≡ [] → now ≡ true
    → room ≡ size → IsSound tells leaves name start headed start none now room
sound_emptied tells leaves name place headed start list none in_doubt now size room sound is_headed empty doubted same =
    subst (λ (l : List (List FileText)). IsSound tells leaves name start headed start l now room) (sym empty)
    (subst (λ (b : Bool). IsSound tells leaves name start headed start [] b room) (sym doubted) (record {
      named = sound.named;
      placed = omega arith;
      short = sound.short;
      bare = λ is. absurd (cc);
      fits = no_list;
      spare = omega (arith, same, sound.spare);
      journal = λ told c is.
          let there = sound.journal told c is in
          record { head = there.head; rest = list_bytes list ++ there.rest; size = there.size; is = there.is; behind = tt };
    }))

module _ {D : Type 0} (g : Ghosts D) (old new : D) (name : List ℕ) (place : ℕ) (headed : Bool) (start : ℕ) (list : List (List FileText)) (in_doubt : Bool) (size : ℕ)
    (sound : IsSound (g.tells old) (g.may_leave old) name place headed start list in_doubt size) (goes : GoesOn g old new) where
  told_then : g.tells new ≡ true → g.tells old ≡ true
  told_then told = sym goes.tells ∙ told

  -- a write at the gate may have failed
  pub sound_torn : (r : Result Unit Failed) (bytes : List ℕ) (now : Bool) → now ≡ true
      → (g.tells old ≡ true → WritesThrough g old new r journal2_name place bytes)
      → IsSound (g.tells new) (g.may_leave new) name place headed start list now size
  sound_torn r bytes now doubted writes = record {
    named = sound.named;
    placed = sound.placed;
    short = sound.short;
    bare = sound.bare;
    fits = sound.fits;
    spare = sound.spare;
    journal = λ told.
        let tells = told_then told in
        subst (λ (b : Bool). Begins (g.may_leave new) start list b) (sym doubted)
        (begins_torn g old new r tells start list place bytes sound.placed (begins_any in_doubt (g.may_leave old) start list (sound.journal tells)) (writes tells));
  }

  -- the gate was closed
  pub sound_closed : (g.tells old ≡ true → WritesThrough g old new (Ok tt) journal2_name place (0 ∷ []))
      → IsSound (g.tells new) (g.may_leave new) name place headed start list false size
  sound_closed writes = record {
    named = sound.named;
    placed = sound.placed;
    short = sound.short;
    bare = sound.bare;
    fits = sound.fits;
    spare = sound.spare;
    journal = λ told.
        let tells = told_then told in
        begins_closed g old new tells start list place sound.placed (begins_any in_doubt (g.may_leave old) start list (sound.journal tells)) (writes tells);
  }

  -- a body was written behind the closed gate
  pub sound_behind : (r : Result Unit Failed) (bytes : List ℕ) → in_doubt ≡ false
      → (g.tells old ≡ true → WritesThrough g old new r journal2_name (place + 1) bytes)
      → IsSound (g.tells new) (g.may_leave new) name place headed start list in_doubt size
  sound_behind r bytes sure writes = record {
    named = sound.named;
    placed = sound.placed;
    short = sound.short;
    bare = sound.bare;
    fits = sound.fits;
    spare = sound.spare;
    journal = λ told.
        let tells = told_then told in
        let began = subst (λ (b : Bool). Begins (g.may_leave old) start list b) sure (sound.journal tells) in
        let placed : place + 1 ≡ start + length (list_bytes list) + 1 = ap (λ n. n + 1) sound.placed in
        subst (λ (b : Bool). Begins (g.may_leave new) start list b) (sym sure) (begins_behind g old new r tells start list (place + 1) bytes placed began (writes tells));
  }

  -- the gate was opened on an entry's body
  pub sound_opened : (entry : List FileText) (longer : List (List FileText)) (ends more : ℕ) → headed ≡ true
      → longer ≡ list ++ entry ∷ [] → ends ≡ place + head_size + length (spelled_on entry)
      → more ≡ size → IsList (list ++ entry ∷ [])
      → (g.tells old ≡ true → HasBodyBehind (g.may_leave old) start list entry)
      → (g.tells old ≡ true → WritesThrough g old new (Ok tt) journal2_name place (1 ∷ []))
      → IsSound (g.tells new) (g.may_leave new) name ends headed start longer false more
  sound_opened entry longer ends more is_headed added placed same fits body writes =
      subst (λ (l : List (List FileText)). IsSound (g.tells new) (g.may_leave new) name ends headed start l false more) (sym added) (record {
        named = sound.named;
        placed = omega (arith, placed, sound.placed, place_after list entry);
        short = sound.short;
        bare = λ is. absurd (cc);
        fits = fits;
        spare = omega (arith, same, sound.spare);
        journal = λ told. let tells = told_then told in begins_opened g old new tells start list entry place sound.placed (body tells) (writes tells);
      })

  -- a head may have been written, and its gate be in doubt
  pub sound_headless : (now : Bool) → headed ≡ false → now ≡ true
      → IsSound (g.tells new) (g.may_leave new) name place headed start list now size
  sound_headless now is_bare doubted =
      let bare = sound.bare is_bare in
      record {
        named = sound.named;
        placed = sound.placed;
        short = sound.short;
        bare = sound.bare;
        fits = sound.fits;
        spare = sound.spare;
        journal = λ told.
            subst (λ (b : Bool). Begins (g.may_leave new) start list b) (sym doubted)
            (subst (λ (n : ℕ). Begins (g.may_leave new) n list true) (sym bare.0)
            (subst (λ (l : List (List FileText)). Begins (g.may_leave new) 0 l true) (sym bare.1) (begins_none (g.may_leave new))));
      }

  -- a head was written, and its gate opened
  pub sound_headed : (header : List ℕ) (begin ends : ℕ) → headed ≡ false → IsHeaderBytes header → begin ≡ length header
      → ends ≡ length header
      → (g.tells old ≡ true → HasOpened header (g.may_leave new))
      → IsSound (g.tells new) (g.may_leave new) name ends true begin list false size
  sound_headed header begin ends is_bare is begins ended opened =
      let names = is.0 in
      let bytes = ap length (is.2 ∙ header_bytes_is names) in
      subst (λ (l : List (List FileText)). IsSound (g.tells new) (g.may_leave new) name ends true begin l false size) (sym (sound.bare is_bare).1) (record {
        named = sound.named;
        placed = omega arith;
        short = omega (arith, bytes, length-append (head_bytes names) (0 ∷ []), length_front names, front_short names is.1);
        bare = λ is. absurd (cc);
        fits = no_list;
        spare = sound.spare;
        journal = λ told.
            subst (λ (n : ℕ). Begins (g.may_leave new) n [] false) (sym begins) (begins_headed (g.may_leave new) header is (opened (told_then told)));
      })

-- a list in doubt whose gate is known to be closed
pub listed_from : (leaves : List ℕ → List ℕ → Type 0) (names : List (List ℕ)) (before : Image) (start : ℕ)
    (entries : List (List FileText)) (doubt : Option (List FileText)) (b : Bool)
    → IsInDoubt leaves names before entries doubt → start ≡ front_size names → b ≡ false → Begins leaves start entries b
    → IsListed leaves names before entries
listed_from leaves names before start entries doubt b state starts sure begins = record {
  same = state.same;
  former = state.former;
  header = state.header;
  fits = state.fits;
  journal = λ c is.
      let there = subst (λ (x : Bool). Begins leaves start entries x) sure begins c is in
      let began = state.journal c is in
      let size = there.size in
      let heads = same_parts there.head (front names) entries there.rest began.0 (omega (arith, size, length_front names)) (sym there.is ∙ began.1) in
      (began.0, began.1, subst IsClosed heads.1 there.behind);
}

-- and a head
pub bare_from : (leaves : List ℕ → List ℕ → Type 0) (files : Image) (start : ℕ) (entries : List (List FileText))
    (doubt : Option (List FileText)) (b : Bool) → IsHeadInDoubt leaves files doubt
    → (start ≡ 0) × (entries ≡ []) → b ≡ false → Begins leaves start entries b → IsBare leaves files
bare_from leaves files start entries doubt b state bare sure begins = record {
  same = state.same;
  former = state.former;
  journal = λ c is. closed_at c (subst (λ (x : Bool). Begins leaves start entries x) sure begins c is);
}
  where
    closed_at : (c : List ℕ) → StandsBehind start entries IsClosed c → IsClosed c
    closed_at c there =
        let none = no_bytes there.head (there.size ∙ bare.0) in
        subst IsClosed (sym (there.is ∙ ap (λ (h : List ℕ). h ++ (list_bytes entries ++ there.rest)) none ∙ ap (λ (l : List (List FileText)). list_bytes l ++ there.rest) bare.1)) there.behind
      where
        no_bytes : (head : List ℕ) → length head ≡ 0 → head ≡ []
        no_bytes [] size = refl
        no_bytes (x ∷ head) size = absurd (omega arith)
