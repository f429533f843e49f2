-- Steps made one after the other by a shorter way, held to the run's own definition.
use Rattle.std.specs.Prelude.{ℕ, ◌+◌, ◌≡◌, List, get_or, Option}
use Rattle.manual.specs.declared.Cap.{Cap}
use Rattle.manual.specs.Narrow.{null, set_offset}
use Rattle.manual.specs.Word.{field25, field20, field15}
use Rattle.manual.specs.Decode.{decode_word}
use Rattle.special.specs.declared.Plain.{Plain}
use Rattle.plain.specs.Plain.{Plainly}
use Rattle.manual.specs.Fetch.{fetch_of, word_of, ahead_of}
use Rattle.manual.specs.declared.Machine.{Machine}
use Rattle.manual.specs.Steps.{run_from}
use Rattle.way.specs.declared.Way.{Way}
use Rattle.way.specs.Way.{waiting_at}

abbrev pub holding : List ℕ → List Cap → Cap → Option Cap → ℕ → Machine
holding g caps pcc pending cause = record { general = g; caps = caps; pcc = pcc; pending = pending; cause = cause }

-- so many steps lead from one to the other, whatever the cause, and the steps before and after
pub record Glides (flash g : List ℕ) (caps : List Cap) (pcc : Cap) (pending : Option Cap) (ram tags : List ℕ) (steps : ℕ) (g' : List ℕ) (caps' : List Cap) (pcc' : Cap) (pending' : Option Cap) (ram' tags' : List ℕ) : Type 0 where
  pub leads : (cause k n : ℕ)
      → run_from (steps + k) n flash (holding g caps pcc pending cause) ram tags ≡ run_from k (n + steps) flash (holding g' caps' pcc' pending' cause) ram' tags'

-- the same where a step of the way stands
abbrev pub GlidesOn : List ℕ → Cap → List ℕ → List Cap → Way → List ℕ → List ℕ → ℕ → List ℕ → List Cap → Way → List ℕ → List ℕ → Type 0
GlidesOn flash pcc g caps way ram tags steps g' caps' way' ram' tags' =
    Glides flash g caps (set_offset pcc way.at) (waiting_at way.slot pcc way.target) ram tags steps g' caps' (set_offset pcc way'.at) (waiting_at way'.slot pcc way'.target) ram' tags'

-- and that whatever the capability registers but C0, which stay as they are
pub record Slides (flash : List ℕ) (c0 pcc : Cap) (g : List ℕ) (way : Way) (ram tags : List ℕ) (steps : ℕ) (g' : List ℕ) (way' : Way) (ram' tags' : List ℕ) : Type 0 where
  pub slides : (caps : List Cap) → c0 ≡ get_or caps 0 null → GlidesOn flash pcc g caps way ram tags steps g' caps way' ram' tags'

-- the word where a step of the way stands, and what it is told by
pub record Sees (flash : List ℕ) (pcc : Cap) (way : Way) (ram : List ℕ) (word ahead : ℕ) : Type 0 where
  pub is_word : word ≡ word_of (fetch_of flash ram (set_offset pcc way.at))
  pub is_ahead : ahead ≡ ahead_of way.slot (fetch_of flash ram (set_offset pcc way.at))

-- the instruction of word i, on the registers that word w names
abbrev pub PlainlyBy : ℕ → ℕ → Cap → List ℕ → List ℕ → List ℕ → List ℕ → List ℕ → List ℕ → Option Plain → Type 0
PlainlyBy i w c0 flash g ram tags ram' tags' r =
    Plainly (decode_word i) (field20 w) (field15 w) (get_or g (field25 w) 0) (get_or g (field20 w) 0) c0 flash ram tags ram' tags' r
