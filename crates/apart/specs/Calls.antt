-- What Apart answers.
-- Assumes nothing.
use Rattle.std.specs.Prelude.{ℕ, cond, List}
use Rattle.table.specs.Answers.{Said, gives}
use Rattle.reading.specs.Calls.{if_start}
use Rattle.reorder.specs.Tests.{seen_apart}

-- 1 to 6 and 9, then 1 where the alternatives of Or record k are seen to share no line, and 0 where that is not known
unfoldable pub apart_says : List ℕ → ℕ → Said
apart_says t k = if_start t k (gives (cond (seen_apart t k) 1 0))
