-- What a key of a hosts file must have, by its parts. (This project's own.)
use Rattle.std.specs.Prelude.{◌≡◌, ◌≤◌, length, [], Some}
use Rattle.std.specs.FinMap as map
use Rattle.std.specs.List.{AllByRecursion}
use Rattle.model_names.specs.ArrayPart.{last_index}
use Rattle.model_names.specs.Name.{Part}
use Rattle.model_maps.specs.Entry.{Meta, Entry, plain_entry}
use Rattle.model_maps.specs.KeyMap.{KeyMap}
use Rattle.model_hosts.specs.Comments.{comments, texts_of}
use Rattle.model_hosts.specs.Keys.{family, host_name, IsWord, IsOneLine}

-- metadata are just an array of comments
pub record HasComments (meta : Meta) : Type 0 where
  pub are_comments : meta ≡ comments (texts_of meta)
  pub few : length (texts_of meta) ≤ last_index
  pub one_line : AllByRecursion IsOneLine (texts_of meta)

-- a family and a host are those of this entry
pub record IsHost (of_family host : Part) (entry : Entry) : Type 0 where
  pub same_family : of_family ≡ family entry.value
  pub address : IsWord entry.value
  pub word : IsWord host
  pub has_comments : HasComments entry.meta

-- an alias is one of a host that is there, and holds nothing
pub record IsAlias (keys : KeyMap) (of_family host alias : Part) (entry : Entry) : Type 0 where
  pub word : IsWord alias
  pub plain : entry ≡ plain_entry []
  pub host_entry : Entry
  pub found : map.get keys (host_name of_family host) ≡ Some host_entry
