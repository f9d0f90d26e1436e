-- One record written.
use Rattle.std.specs.Prelude.{ℕ, suc, ◌*◌, List, ◌++◌, take, drop}
use Rattle.rule.specs.declared.Bucket.{Bucket}
use Rattle.rule.specs.Numbers.{record_width}
use Rattle.rule.specs.Bytes.{saved_record}

-- the record at index i is that of the bucket b, the other bytes are as they were
unfoldable pub put : List ℕ → ℕ → Bucket → List ℕ
put l i b = take (record_width * i) l ++ (saved_record b ++ drop (record_width * suc i) l)
