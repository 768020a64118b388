-- How far a file was read: lines that led to the progress so far, and the bytes that are left.
use Rattle.std.proofs.Common.{◌≡◌, ℕ, ◌+◌, List, [], ◌∷◌, ◌++◌, length, refl, sym, ap, ◌∙◌, arith, append_assoc, length-append}
use Rattle.model_lines.specs.Lines.{lines}
use Rattle.model_lines.specs.Reading.{Leads, StopsAt}
use Rattle.model_lines.proofs.Leading.{Leads-append}

pub record HasRead {S : Type 0} (Step : S → List ℕ → S → Type 0) (start : S) (bytes rest : List ℕ) (progress : S) (next : ℕ) : Type 0 where
  pub front : List (List ℕ)
  pub whole : lines bytes ≡ front ++ lines rest
  pub leads : Leads Step start front progress
  pub next_is : next ≡ length front + 1

module _ {S : Type 0} (Step : S → List ℕ → S → Type 0) (start : S) (bytes : List ℕ) where
  pub HasRead-start : HasRead Step start bytes bytes start 1
  HasRead-start = record { front = []; whole = refl; leads = refl; next_is = refl }

  -- one line more
  pub HasRead-more : (rest behind line : List ℕ) (progress after : S) (next : ℕ)
      → HasRead Step start bytes rest progress next → lines rest ≡ line ∷ lines behind → Step progress line after
      → HasRead Step start bytes behind after (next + 1)
  HasRead-more rest behind line progress after next h cut step = record {
    front = h.front ++ line ∷ [];
    whole = h.whole ∙ ap (λ ls. h.front ++ ls) cut ∙ sym (append_assoc h.front (line ∷ []) (lines behind));
    leads = Leads-append Step h.front (line ∷ []) start progress after h.leads (after, step, refl);
    next_is = omega (arith, h.next_is, length-append h.front (line ∷ []));
  }

  -- where the next line leads nowhere, the file is bad there
  pub HasRead-stops : (rest behind line : List ℕ) (progress : S) (next : ℕ)
      → HasRead Step start bytes rest progress next → lines rest ≡ line ∷ lines behind
      → ((after : S) → Step progress line after → ⊥) → StopsAt Step start (lines bytes) next
  HasRead-stops rest behind line progress next h cut none = record {
    front = h.front;
    progress = progress;
    line = line;
    behind = lines behind;
    whole = h.whole ∙ ap (λ ls. h.front ++ ls) cut;
    leads = h.leads;
    has_none = none;
    number_is = h.next_is;
  }
