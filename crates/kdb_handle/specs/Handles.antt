-- What contracts see of a handle. (This project's own.)
use Rattle.std.specs.Prelude.{◌≡◌, ℕ, List, [], length, Option, Some, refl}
use Rattle.std.specs.Coded.{Coded, code_by, coded×, coded_ℕ, coded_list}
use Rattle.std.specs.Option.{unwrap_or}
use Rattle.atomic_table.specs.Seated.{TableId, table_id_coded}
use Rattle.kdb_handle.specs.Story.{Told, commits_of, coded_told}
use Rattle.seat_lock.specs.Known.{Known, knowledge}
use Rattle.store_verdict.specs.RecordView.{handle_of}
use Rattle.store_verdict.specs.declared.records.Record.{Record}
use Rattle.store_verdict.specs.contracts.records.Record.{the_row}

-- the lock that it belongs to, its number, all that it has seen of the story, what it made, and its record
pub record HandleValue : Type 0 where
  pub place : TableId
  pub number : ℕ
  pub seen : List Told
  pub own : List Told
  pub rec : Record

-- how a proof tells handles apart
abbrev pub coded_handle : Coded HandleValue
coded_handle =
    code_by ((TableId × ℕ) × ((List Told × List Told) × Record)) (coded× (coded× table_id_coded coded_ℕ) (coded× (coded× (coded_list coded_told) (coded_list coded_told)) the_row.coded))
    (λ h. ((h.place, h.number), ((h.seen, h.own), h.rec))) (λ p. record { place = p.0.0; number = p.0.1; seen = p.1.0.0; own = p.1.0.1; rec = p.1.1 }) (λ _. refl)

-- a handle has a seat but for the time of its own turns
abbrev pub no_seat : Known Told
no_seat =
    knowledge (record { words = 0; slots = 0; views_name = 0; atom = 0; block = 0; offset = 0; slot_names = [] }) 0 [] []

abbrev pub seat_in : Option (Known Told) → Known Told
seat_in seat = unwrap_or seat no_seat

abbrev pub handle_with : Option (Known Told) → Record → HandleValue
handle_with seat rec =
    record {
      place = (seat_in seat).place;
      number = (seat_in seat).number;
      seen = (seat_in seat).seen;
      own = (seat_in seat).own;
      rec = rec;
    }

-- a flusher has one, too
abbrev pub IsSat : Option (Known Told) → Type 0
IsSat seat = seat ≡ Some (seat_in seat)

-- the record has the seat's number, and the count of commits is that of the story that was seen
pub record IsSeated (seat : Option (Known Told)) (rec : Record) (commits : ℕ) : Type 0 where
  pub there : seat ≡ Some (seat_in seat)
  pub number : handle_of rec ≡ (seat_in seat).number
  pub commits_are : commits ≡ length (commits_of (seat_in seat).seen)
