-- What the code puts is what a line adds, and a line that it can't put adds nothing.
use Rattle.std.proofs.Common.{◌≡◌, ℕ, ◌<◌, ◌≤◌, Bool, true, false, List, [], length, None, sym, ap, subst, ◌∙◌}
use Rattle.std.specs.FinMap as map
use Rattle.std.specs.List.{AllByRecursion}
use Rattle.std.specs.Str.{IsUtf8}
use Rattle.std.specs.Prelude.{Option}
use Rattle.model_names.specs.ArrayPart.{last_index}
use Rattle.model_names.specs.WellFormed.{IsName}
use Rattle.model_maps.specs.Entry.{IsValue}
use Rattle.model_maps.specs.KeyMap.{KeyMap}
use Rattle.model_hosts.specs.Line.{Comment, meaning}
use Rattle.model_hosts.specs.Keys.{family, host_name}
use Rattle.model_hosts.specs.Hosts.{Progress, with_own, host_entry, AddsHost, Does, Step}
use Rattle.hosts_storage.specs.ProgressView.{progress_of, LeadsBy, WithComment, IsPut, PutsHost}
use Rattle.hosts_storage.specs.declared.progress.Progress as code
use Rattle.hosts_storage.proofs.CommentUtf8.{comment-utf8}
use Rattle.hosts_storage.proofs.WeighedLemmas.{with_aliases-of}

-- a comment line is read as its comment
pub comment-leads : (before : Progress) (line text : List ℕ) (after : code.Progress) (read : Bool) → IsUtf8 line
    → meaning line ≡ Comment text → LeadsBy (WithComment before text) after read → LeadsBy (Step before line) after read
comment-leads before line text after true utf8 says h =
    (record { utf8 = utf8; does = subst (λ m. Does m before (progress_of after)) (sym says) h.0.added }, h.1)
comment-leads before line text after false utf8 says h =
    λ other step. h other (record { utf8 = comment-utf8 line text step.utf8 says; added = subst (λ m. Does m before other) says step.does })

module _ (before : Progress) (address host : List ℕ) (aliases : List (List ℕ)) (own : Option (List ℕ)) where
  -- what an entry needs but for its aliases and the weight
  pub record Fits : Type 0 where
    pub is_new : map.get before.keys (host_name (family address) host) ≡ None
    pub is_name : IsName (host_name (family address) host)
    pub is_value : IsValue address
    pub no_nul : AllByRecursion (λ b. 0 < b) address
    pub are_values : AllByRecursion IsValue (with_own before.waiting own)
    pub few : length (with_own before.waiting own) ≤ last_index

  abbrev Puts : KeyMap → Type 0
  Puts after =
      IsPut before.keys (host_name (family address) host) (host_entry address (with_own before.waiting own)) aliases after

  put-adds : Fits → (after : KeyMap) → Puts after
      → AddsHost before address host aliases own (record { keys = after; waiting = [] })
  put-adds fits after put = record {
    is_new = fits.is_new;
    is_name = fits.is_name;
    are_names = put.1;
    is_value = fits.is_value;
    no_nul = fits.no_nul;
    are_values = fits.are_values;
    few = fits.few;
    added = λ i. record { keys = (put.0 ∙ with_aliases-of (family address) host aliases _) i; waiting = [] };
    light = put.2;
  }

  adds-put : (after : Progress) → AddsHost before address host aliases own after → Puts after.keys
  adds-put after adds =
      (ap (λ (p : Progress). p.keys) adds.added ∙ sym (with_aliases-of (family address) host aliases _), adds.are_names, adds.light)

  pub host-leads : (after : code.Progress) (read : Bool) → Fits → after.waiting.items ≡ []
      → PutsHost before.keys (host_name (family address) host) (host_entry address (with_own before.waiting own)) aliases after.found read
      → LeadsBy (AddsHost before address host aliases own) after read
  host-leads after true fits none h =
      (subst (λ ws. AddsHost before address host aliases own (record { keys = after.found.keys; waiting = ws })) (sym none) (put-adds fits after.found.keys h.0), h.1)
  host-leads after false fits none h = λ other adds. h other.keys (adds-put other adds)
