-- What one name has in the specified set, from what the set has at it and at its path in `spec:`.
use Rattle.std.proofs.Common.{◌≡◌, Bool, true, cond, not, ◌&&◌, [], Option, Some, None, sym, ap, ap₂, ◌∙◌}
use Rattle.std.specs.Prelude.{nat_eq, if◌then◌else◌, option_and_then, Result, Ok, Err, IfOk}
use Rattle.std.specs.Bool.{Decides, one_answer}
use Rattle.std.specs.FinMap as finite
use Rattle.std.specs.Option.{option_map, option_or}
use Rattle.general_words.proofs.Maps.{get-retain}
use Rattle.model_names.specs.declared.namespaces.Namespace.TheVariants.{Default}
use Rattle.model_names.specs.Below.{is_at_or_below}
use Rattle.model_names.specs.Glob.{HasGlob}
use Rattle.model_names.specs.Name.{Name, rank}
use Rattle.model_names.proofs.OrderLemmas.{name_cmp_total, name_cmp-IsAntisymmetric}
use Rattle.model_maps.specs.Entry.{Entry}
use Rattle.model_maps.specs.KeyMap.{KeyMap}
use Rattle.model_specified.specs.Globs.{has_glob}
use Rattle.model_specified.specs.SpecMeta.{spec_keys, spec_name}
use Rattle.model_specified.specs.Specified.{default_at, default_text, specified, specified_entry, with_defaults}
use Rattle.model_specified.proofs.DefaultLemmas.{get-with_defaults}
use Rattle.model_specified.proofs.GlobTests.{has_glob-Decides}
use Rattle.model_specified.proofs.SpecifiedLemmas.{get-specified}

-- a name is one of `spec:`
abbrev pub in_spec : Name → Bool
in_spec = is_at_or_below (spec_name [])

pub get-spec_keys : (keys : KeyMap) (name : Name)
    → finite.get (spec_keys keys) name ≡ cond (in_spec name) (finite.get keys name) None
get-spec_keys keys name = get-retain name_cmp_total name_cmp-IsAntisymmetric keys in_spec name

-- ---- its default

abbrev may_be_made : Name → Bool
may_be_made name = nat_eq (rank name.namespace) (rank Default) && not (has_glob name.parts)

pub made_told : (name : Name) (is glob : Bool) → is ≡ nat_eq (rank name.namespace) (rank Default)
    → Decides glob (HasGlob name.parts) → (is && not glob) ≡ may_be_made name
made_told name is glob tells decides =
    ap₂ (λ b c. b && not c) tells (one_answer glob (has_glob name.parts) decides (has_glob-Decides name.parts))

-- there is the one that the key of its path says
pub said_at : (keys : KeyMap) (name own : Name) (o : Option Entry) → may_be_made name ≡ true
    → own ≡ spec_name name.parts → o ≡ option_and_then default_text (finite.get keys own)
    → o ≡ default_at (spec_keys keys) name
said_at keys name own o is is_own says =
    says
    ∙ ap (λ n. option_and_then default_text (finite.get keys n)) is_own
    ∙ ap (option_and_then default_text) (sym (get-spec_keys keys (spec_name name.parts)))
    ∙ ap (λ b. if b then option_and_then default_text (finite.get (spec_keys keys) (spec_name name.parts)) else None) (sym is)

pub said_at_ok : {E : Type 0} {X : Type 0} (view : X → Entry) (keys : KeyMap) (name own : Name)
    (r : Result (Option X) E) → may_be_made name ≡ true → own ≡ spec_name name.parts
    → IfOk r (λ o. option_map view o ≡ option_and_then default_text (finite.get keys own))
    → IfOk r (λ o. option_map view o ≡ default_at (spec_keys keys) name)
said_at_ok view keys name own (Ok o) is is_own says = said_at keys name own (option_map view o) is is_own says
said_at_ok view keys name own (Err e) is is_own says = says

-- ---- its entry

-- the name has its default, or else what it had
pub default_first : (keys : KeyMap) (name : Name) (entry : Entry) → Some entry ≡ default_at (spec_keys keys) name
    → Some entry ≡ finite.get (with_defaults (spec_keys keys) keys) name
default_first keys name entry is = ap (λ o. option_or o (finite.get keys name)) is ∙ sym (get-with_defaults keys name)

pub else_own : (keys : KeyMap) (name : Name) (o : Option Entry) → None ≡ default_at (spec_keys keys) name
    → o ≡ finite.get keys name → o ≡ finite.get (with_defaults (spec_keys keys) keys) name
else_own keys name o none is =
    is ∙ ap (λ p. option_or p (finite.get keys name)) none ∙ sym (get-with_defaults keys name)

-- the name has its entry as the specifications have it
pub specified_some : (keys : KeyMap) (name : Name) (entry new : Entry)
    → Some entry ≡ finite.get (with_defaults (spec_keys keys) keys) name
    → new ≡ specified_entry (spec_keys keys) name entry → Some new ≡ finite.get (specified keys) name
specified_some keys name entry new has is =
    ap Some is ∙ ap (option_map (specified_entry (spec_keys keys) name)) has ∙ sym (get-specified keys name)

pub specified_none : (keys : KeyMap) (name : Name) → None ≡ finite.get (with_defaults (spec_keys keys) keys) name
    → None ≡ finite.get (specified keys) name
specified_none keys name none =
    ap (option_map (specified_entry (spec_keys keys) name)) none ∙ sym (get-specified keys name)
