-- The cache that lies in a program's structs.
use Rattle.l1_cache.specs.Lines.{Lines, bare_lines}
use Rattle.l1_cache.specs.declared.cache.Cache.{Cache}

-- it has no ways and no room so far
abbrev pub lines_of : Cache → Lines
lines_of cache = bare_lines cache.sets cache.hits cache.misses
