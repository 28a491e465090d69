-- A section header with its fields, from its bytes.
-- Assumes nothing.
use Rattle.std.specs.Prelude.{ℕ, List}
use Rattle.gabi.specs.File.{sh_name, sh_type, sh_flags, sh_offset, sh_size, sh_link, sh_info, header_bytes_at}
use Rattle.elf_file.specs.declared.Header.{Header}

unfoldable pub header_of : List ℕ → Header
header_of h =
    record {
      name = sh_name h;
      kind = sh_type h;
      flags = sh_flags h;
      offset = sh_offset h;
      size = sh_size h;
      link = sh_link h;
      info = sh_info h;
    }

-- header i of the section header table
unfoldable pub header_at : List ℕ → ℕ → Header
header_at table i = header_of (header_bytes_at table i)
