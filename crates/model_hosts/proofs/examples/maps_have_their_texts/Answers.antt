use Rattle.std.specs.Prelude.{◌≡◌, ℕ, List, [], ◌∷◌, ◌++◌, codes, map}
use Rattle.std.specs.FinMap as finite
use Rattle.std.specs.List.{flat_map}
use Rattle.std.proofs.Common.{ap, ◌∙◌, lit≤}
use Rattle.model_names.specs.Name.{Name}
use Rattle.model_names.specs.Order.{name_cmp}
use Rattle.model_names.proofs.OrderLemmas.{name_cmp_total}
use Rattle.model_maps.specs.Entry.{Entry, plain_entry}
use Rattle.model_maps.specs.KeyMap.{KeyMap, no_keys}
use Rattle.model_lines.specs.Lines.{ended}
use Rattle.general_words.proofs.Maps.{entries-empty}
use Rattle.model_hosts.specs.Comments.{comments, texts_of}
use Rattle.model_hosts.specs.Keys.{host_name, alias_name}
use Rattle.model_hosts.specs.Hosts.{host_entry}
use Rattle.model_hosts.specs.Text.{grouped, lines_of, host_line}
use Rattle.model_hosts.proofs.CommentLemmas.{texts_of-comments}
use Rattle.model_hosts.proofs.examples.maps_have_their_texts.Goals as goal

-- the text of a map with these entries
abbrev text_of : List (Name × Entry) → List ℕ
text_of entries = ended (flat_map lines_of (grouped entries).1)

pub returns-clause-no_keys : goal.returns-clause-no_keys
returns-clause-no_keys c = ap text_of (entries-empty name_cmp Entry)

abbrev localhost : Name × Entry
localhost = (host_name (codes "ipv4") (codes "localhost"), host_entry (codes "127.0.0.1") (codes " The loopback" ∷ []))

abbrev box : Name × Entry
box = (host_name (codes "ipv4") (codes "box.example"), host_entry (codes "127.0.1.1") (codes " this machine" ∷ []))

abbrev box_alias : Name × Entry
box_alias = (alias_name (codes "ipv4") (codes "box.example") (codes "box"), plain_entry [])

abbrev six : Name × Entry
six = (host_name (codes "ipv6") (codes "ip6-localhost"), host_entry (codes "::1") [])

abbrev six_alias : Name × Entry
six_alias = (alias_name (codes "ipv6") (codes "ip6-localhost") (codes "ip6-loopback"), plain_entry [])

abbrev with_key : KeyMap → Name × Entry → KeyMap
with_key keys key = finite.insert keys key.0 key.1

one : finite.entries (with_key no_keys localhost) ≡ localhost ∷ []
one = finite.entries-insert name_cmp_total no_keys localhost.0 localhost.1 ∙ rw (entries-empty name_cmp Entry)

two : finite.entries (with_key (with_key no_keys localhost) box) ≡ box ∷ localhost ∷ []
two = finite.entries-insert name_cmp_total (with_key no_keys localhost) box.0 box.1 ∙ rw one

three : finite.entries (with_key (with_key (with_key no_keys localhost) box) box_alias)
    ≡ box ∷ box_alias ∷ localhost ∷ []
three =
    finite.entries-insert name_cmp_total (with_key (with_key no_keys localhost) box) box_alias.0 box_alias.1 ∙ rw two

four : finite.entries (with_key (with_key (with_key (with_key no_keys localhost) box) box_alias) six)
    ≡ box ∷ box_alias ∷ localhost ∷ six ∷ []
four =
    finite.entries-insert name_cmp_total (with_key (with_key (with_key no_keys localhost) box) box_alias) six.0 six.1
    ∙ rw three

five : finite.entries (with_key (with_key (with_key (with_key (with_key no_keys localhost) box) box_alias) six) six_alias)
    ≡ box ∷ box_alias ∷ localhost ∷ six ∷ six_alias ∷ []
five =
    finite.entries-insert name_cmp_total (with_key (with_key (with_key (with_key no_keys localhost) box) box_alias) six) six_alias.0 six_alias.1
    ∙ rw four

-- the text with these comments of the three hosts
abbrev written : List (List ℕ) → List (List ℕ) → List (List ℕ) → List ℕ
written first second third =
    ended ((map (λ text. 35 ∷ text) first ++ host_line (codes "127.0.1.1") (codes "box.example") (codes "box" ∷ []) ∷ []) ++ ((map (λ text. 35 ∷ text) second ++ host_line (codes "127.0.0.1") (codes "localhost") [] ∷ [])
    ++ ((map (λ text. 35 ∷ text) third ++ host_line (codes "::1") (codes "ip6-localhost") (codes "ip6-loopback" ∷ []) ∷ []) ++ [])))

machine : texts_of (comments (codes " this machine" ∷ [])) ≡ codes " this machine" ∷ []
machine = texts_of-comments (codes " this machine" ∷ []) (lit≤ tt)

loopback : texts_of (comments (codes " The loopback" ∷ [])) ≡ codes " The loopback" ∷ []
loopback = texts_of-comments (codes " The loopback" ∷ []) (lit≤ tt)

none : texts_of (comments []) ≡ []
none = texts_of-comments [] (lit≤ tt)

pub returns-clause-hosts : goal.returns-clause-hosts
returns-clause-hosts c = ap text_of five ∙ (λ i. written (machine i) (loopback i) (none i))
