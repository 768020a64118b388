-- A record adds one way to what was read before it.
use Rattle.std.specs.Prelude.{◌≡◌, ℕ, List, ◌∷◌, Some}
use Rattle.std.proofs.Common.{sym, ap, ap₂, subst, ◌∙◌}
use Rattle.std.specs.FinMap as map
use Rattle.general_words.proofs.Lists.{found_once}
use Rattle.model_names.specs.Name.{Name}
use Rattle.model_names.proofs.SpellsLemmas.{Spells-once}
use Rattle.model_maps.specs.Entry.{Entry, plain_entry, with_meta}
use Rattle.model_dump.specs.Record.{RecordKind, KeyKind, MetaKind, CopyKind, Record}
use Rattle.model_dump.specs.Adds.{Progress, AddsKey, PutsMeta, CopiesMeta, AddsBy, Adds}

key_once : (before : Progress) (text value : List ℕ) (a b : Progress) → AddsKey before text value a
    → AddsKey before text value b → a ≡ b
key_once before text value a b p q =
    let names = Spells-once (47 ∷ text) p.name q.name p.spelled q.spelled in
    p.added
    ∙ ap (λ (name : Name). record { keys = map.insert before.keys name (plain_entry value); present = Some name }) names
    ∙ sym q.added

puts_once : (before : Progress) (name text : List ℕ) (a b : Progress) → PutsMeta before name text a
    → PutsMeta before name text b → a ≡ b
puts_once before name text a b p q =
    let keys = found_once p.key q.key p.present q.present in
    let entries = found_once p.entry q.entry (ap (map.get before.keys) (sym keys) ∙ p.found) q.found in
    p.added
    ∙ ap₂ (λ (key : Name) (entry : Entry). record { keys = map.insert before.keys key (with_meta entry name text); present = before.present }) keys entries
    ∙ sym q.added

copy_once : (before : Progress) (source_text name : List ℕ) (a b : Progress) → CopiesMeta before source_text name a
    → CopiesMeta before source_text name b → a ≡ b
copy_once before source_text name a b p q =
    let sources = Spells-once (47 ∷ source_text) p.source q.source p.spelled q.spelled in
    let entries = found_once p.entry q.entry (ap (map.get before.keys) (sym sources) ∙ p.found) q.found in
    let texts = found_once p.text q.text (ap (λ (entry : Entry). map.get entry.meta name) (sym entries) ∙ p.has) q.has in
    puts_once before name q.text a b (subst (λ text. PutsMeta before name text a) texts p.puts) q.puts

-- what a record of a kind does, it does one way
pub AddsBy-once : (kind : RecordKind) (before : Progress) (first second : List ℕ) (a b : Progress)
    → AddsBy kind before first second a → AddsBy kind before first second b → a ≡ b
AddsBy-once KeyKind = key_once
AddsBy-once MetaKind = λ before name text a b p q. puts_once before name text a b p.puts q.puts
AddsBy-once CopyKind = copy_once

-- a record makes one map of the map before it
pub Adds-once : (before : Progress) (r : Record) (a b : Progress) → Adds before r a → Adds before r b → a ≡ b
Adds-once before r a b p q = AddsBy-once r.kind before r.first r.second a b p.adds q.adds
