-- What an image reads as, and when it is broken.
use Rattle.std.proofs.Common.{◌≡◌, ◌≢◌, ℕ, List, drop, Bool, true, false, Err}
use Rattle.kdb_outside.specs.Images.{Image}
use Rattle.journal_codec.specs.Entry.{journal_name}
use Rattle.journal_steps.specs.JournalBytes.{gate, entries_behind}
use Rattle.journal_steps.specs.Readings.{reading, Admits, IsBroken}

-- of a broken image the gate isn't closed, and the body behind it isn't whole
pub record IsBrokenBehind (c : List ℕ) : Type 0 where
  pub opened : gate c ≢ 0
  pub at : ℕ
  pub fails : entries_behind (drop 1 c) ≡ Err at

pub broken_behind : (image : Image) → IsBroken image → IsBrokenBehind (image journal_name)
broken_behind image broken = by broken.taken broken.admitted broken.fails
  where
    by : (taken : Bool) → Admits image taken → reading taken image ≡ Err broken.at → IsBrokenBehind (image journal_name)
    by true admitted fails = record { opened = admitted; at = broken.at; fails = fails }
    by false admitted fails = absurd (cc)
