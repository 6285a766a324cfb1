use Rattle.book.proofs.Acceptance.{numbers_of_lines, tags_and_states, sixty_four_deep}
use Rattle.book.proofs.theory.numbers_stands.Goals as goal

pub returns : goal.returns
returns c = record { lines = numbers_of_lines; limits = tags_and_states; depth = sixty_four_deep }
