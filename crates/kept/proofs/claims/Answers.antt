use Rattle.manual.proofs.Numbers.{to_be-be}
use Rattle.manual.proofs.Narrows.{top_is_empty}
use Rattle.manual.proofs.Stores.{stored_is_loaded, others_stay, tag_is_set, other_tags_stay}
use Rattle.manual.proofs.Lines.{cap_is_kept, bits_are_kept}
use Rattle.kept.proofs.Laws.{stored_and_loaded, loaded_and_stored}
use Rattle.kept.proofs.claims.Goals as goal

pub returns : goal.returns
returns c = record { top_is_empty = top_is_empty; stored_is_loaded = stored_is_loaded; loaded_is_stored = to_be-be; others_stay = others_stay; tag_is_set = tag_is_set; other_tags_stay = other_tags_stay; cap_is_kept = cap_is_kept; bits_are_kept = bits_are_kept; stored_and_loaded = stored_and_loaded; loaded_and_stored = loaded_and_stored }
