-- The laws of the format.
use Rattle.std.specs.Prelude.{◌≡◌, ◌⊎◌, ℕ, List, []}
use Rattle.std.proofs.Common.{refl, sym, ap, inl, inr}
use Rattle.std.proofs.lemmas.Bool.{true≢false}
use Rattle.model_maps.specs.KeyMap.{KeyMap}
use Rattle.model_formats.specs.Format.{IsLawful}
use Rattle.model_lines.specs.Lines.{lines}
use Rattle.model_lines.proofs.Leading.{Leads-once, Leads-stops_nowhere, StopsAt-once, Leads-or_stops}
use Rattle.model_hosts.specs.Hosts.{Progress, start, Step, Reads, IsBadAt}
use Rattle.model_hosts.specs.Text.{hosts}
use Rattle.model_hosts.proofs.HostsLemmas.{Step-once, Step-told, hosts_key-told, Reads-storable, Reads-limited}
use Rattle.model_hosts.proofs.TextReads.{text-reads}

Reads-once : (bytes : List ℕ) (keys other : KeyMap) → Reads bytes keys → Reads bytes other → keys ≡ other
Reads-once bytes keys other p q =
    ap (λ (progress : Progress). progress.keys) (Leads-once Step Step-once (lines bytes) start (record { keys = keys; waiting = p.waiting }) (record { keys = other; waiting = q.waiting }) p.leads q.leads)

reads_or_bad : (bytes : List ℕ) → ((keys : KeyMap) × Reads bytes keys) ⊎ ((line : ℕ) × IsBadAt bytes line)
reads_or_bad bytes =
    elim (Leads-or_stops Step Step-told (lines bytes) start) [
      | inl leads ↦ inl (leads.0.keys, record { waiting = leads.0.waiting; leads = leads.1 })
      | inr stops ↦ inr stops
    ]

pub hosts-lawful : IsLawful hosts
hosts-lawful = record {
  text_reads = text-reads;
  one_reading = Reads-once;
  read_is_storable = Reads-storable;
  read_is_limited = Reads-limited;
  empty_reads = record { waiting = []; leads = refl };
  reads_or_bad = reads_or_bad;
  read_is_not_bad = λ bytes keys line reads bad. Leads-stops_nowhere Step Step-once start (lines bytes) (record { keys = keys; waiting = reads.waiting }) line reads.leads bad;
  one_line = λ bytes line other p q. StopsAt-once Step Step-once start (lines bytes) line other p q;
  holds_or_not = hosts_key-told;
  held_alone = λ _ _ name entry keywise held. absurd (true≢false (sym keywise));
}
